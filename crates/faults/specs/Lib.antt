pub mod Faults
pub mod Passes
pub mod Laws
