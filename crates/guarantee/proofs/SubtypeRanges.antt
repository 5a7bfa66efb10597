-- The proof of what specs/SubtypeRanges states.
pub mod Kept
pub mod Refused
pub mod Proof
