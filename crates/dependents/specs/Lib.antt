pub mod Dependents
pub mod Laws
