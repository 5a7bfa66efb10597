-- The proof of what specs/Sequences states.
pub mod Proof
