-- The proof of what specs/Multiples states.
pub mod Proof
