pub mod Answer
pub mod Scan
