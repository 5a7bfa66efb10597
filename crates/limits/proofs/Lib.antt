pub mod Columns
pub mod Limited
pub mod Starts
pub mod Walked
pub mod Preparing
