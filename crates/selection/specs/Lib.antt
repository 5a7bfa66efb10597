pub mod Selected
pub mod Laws
