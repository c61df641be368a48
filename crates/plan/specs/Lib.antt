pub mod Error
pub mod Pairs
pub mod Numbers
pub mod Plan
pub mod Heal
pub mod Next
pub mod Promise
pub mod Rules
