pub mod Writing
pub mod Reporting
pub mod Answered
