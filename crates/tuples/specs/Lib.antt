pub mod Steps
pub mod StepsLaws
pub mod Stored
pub mod StoredLaws
pub mod Nested
pub mod NestedLaws
