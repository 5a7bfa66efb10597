-- The laws of what is printed.
pub mod Reports
pub mod Whole
