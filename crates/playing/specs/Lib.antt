pub mod Places
pub mod Found
