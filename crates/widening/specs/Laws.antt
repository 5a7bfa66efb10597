-- The laws of widening: what the code writes, what that is of a diagram's table, and what a caller has.
pub mod Writes
pub mod Tables
pub mod Accepts
pub mod Counts
