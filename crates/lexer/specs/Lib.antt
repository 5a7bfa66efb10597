pub mod Cuts
pub mod Tails
pub mod Sound
