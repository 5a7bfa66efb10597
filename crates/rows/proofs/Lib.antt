pub mod Groups
pub mod Passing
