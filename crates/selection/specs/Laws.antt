-- The laws of loops over roles.
pub mod Selects
pub mod Types
pub mod Players
pub mod Upto
pub mod Writes
