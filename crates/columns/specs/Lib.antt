pub mod Reached
pub mod Keyed
pub mod Values
pub mod Walks
pub mod Differ
pub mod Single
pub mod Reach
