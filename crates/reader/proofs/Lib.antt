pub mod Steps
pub mod Running
pub mod Turns
pub mod Stored
pub mod Copied
pub mod Answers
