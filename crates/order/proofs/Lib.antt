pub mod Places
pub mod Merges
pub mod Listing
pub mod Searches
