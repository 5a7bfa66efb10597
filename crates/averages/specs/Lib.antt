pub mod Answer
pub mod Owner
