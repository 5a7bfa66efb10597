pub mod Stored
pub mod Told
