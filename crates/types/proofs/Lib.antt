pub mod Members
pub mod Ordered
pub mod Walked
