pub mod States
pub mod Healing
pub mod OlderHeader
pub mod Life
pub mod NextWrite
