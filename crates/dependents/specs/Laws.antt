-- The laws of limits found by their operands.
pub mod Differing
pub mod Building
pub mod Chains
pub mod Values
pub mod Lowering
