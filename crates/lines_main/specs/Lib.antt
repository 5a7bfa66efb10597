pub mod Report
pub mod Whole
