pub mod Cells
pub mod Largest
pub mod Bounds
pub mod Places
pub mod Lines
pub mod Output
