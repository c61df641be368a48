pub mod Steps
pub mod Healing
pub mod OlderHeader
pub mod Life
pub mod NextWrite
