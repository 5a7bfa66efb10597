-- The laws of what the rounds start from.
pub mod Inside
pub mod Read
pub mod Room
pub mod Start
