pub mod Lowest
pub mod Found
pub mod Answered
pub mod Later
