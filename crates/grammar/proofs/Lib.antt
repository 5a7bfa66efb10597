pub mod Bounds
pub mod Named
pub mod Numbers
pub mod Faults
