pub mod Single
pub mod Encoded
pub mod Prepared
pub mod Laws
