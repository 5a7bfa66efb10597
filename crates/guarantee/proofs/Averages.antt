-- The proof of what specs/Averages states.
pub mod Proof
