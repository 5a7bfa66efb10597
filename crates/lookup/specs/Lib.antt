pub mod Stamps
pub mod Counts
