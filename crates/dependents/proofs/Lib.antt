pub mod AllLinked
pub mod Walks
