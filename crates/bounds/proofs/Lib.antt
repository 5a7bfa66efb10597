pub mod Starting
pub mod Answers
pub mod Tables
