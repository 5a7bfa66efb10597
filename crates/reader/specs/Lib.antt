pub mod Answer
pub mod Reach
pub mod Lines
pub mod Written
