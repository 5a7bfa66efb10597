pub mod Fault
pub mod Bounds
pub mod Listed
pub mod Awaited
pub mod Step
pub mod Room
pub mod Walk
pub mod Laws
