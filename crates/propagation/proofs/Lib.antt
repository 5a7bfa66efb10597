pub mod Problems
pub mod Answers
