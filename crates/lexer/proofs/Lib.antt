pub mod Digits
pub mod Prefixes
pub mod Fields
pub mod Parts
