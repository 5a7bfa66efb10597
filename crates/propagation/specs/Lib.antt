pub mod Answer
pub mod Posed
