pub mod Faults
pub mod Room
pub mod Walk
pub mod Listed
