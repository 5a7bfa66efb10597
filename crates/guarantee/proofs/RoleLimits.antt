-- The proof of what specs/RoleLimits states.
pub mod Kept
pub mod Refused
pub mod Proof
