-- The proof of what specs/Subtypes states.
pub mod Proof
