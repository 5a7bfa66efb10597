pub mod Start
pub mod Answer
pub mod Laws
