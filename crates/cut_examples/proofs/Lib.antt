pub mod Writes
pub mod SlotsRead
pub mod Computed
pub mod LongWrites
