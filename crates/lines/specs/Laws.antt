pub mod FirstLine
pub mod NextLine
pub mod Answers
pub mod Lines
