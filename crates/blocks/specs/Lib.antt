pub mod Blocks
pub mod Cuts
pub mod Starts
pub mod Places
pub mod Standing
