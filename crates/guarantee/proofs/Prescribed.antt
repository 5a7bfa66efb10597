-- The proof of what specs/Prescribed states.
pub mod Proof
