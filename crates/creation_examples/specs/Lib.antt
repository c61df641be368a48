pub mod Stores
pub mod Writes
pub mod States
