pub mod Lines
pub mod Types
pub mod Predicates
pub mod Diagrams
