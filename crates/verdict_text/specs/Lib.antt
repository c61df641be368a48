pub mod Read
pub mod Write
pub mod Calls
pub mod Answer
pub mod Steps
pub mod Rules
