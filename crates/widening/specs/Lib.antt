pub mod Widened
pub mod Answer
pub mod Laws
