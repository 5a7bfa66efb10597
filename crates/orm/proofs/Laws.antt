-- The laws of single definitions, by subject; laws of the whole stand in the crates above.
pub mod Readers
pub mod Select
pub mod Limits
pub mod Shape
pub mod Decided
pub mod Named
pub mod Cells
pub mod Bounds
pub mod Rounds
pub mod Prescribe
pub mod Average
pub mod SingleLimits
pub mod Supertypes
