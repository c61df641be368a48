pub mod Stores
pub mod Writes
pub mod Computed
pub mod Cuts
