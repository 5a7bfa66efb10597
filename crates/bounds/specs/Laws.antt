-- The laws of the check that other calls use.
pub mod Starts
pub mod Sizes
pub mod Tables
pub mod Ends
