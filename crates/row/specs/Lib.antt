pub mod Records
pub mod Judged
pub mod Rules
