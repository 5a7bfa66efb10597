-- The laws that relate positions in a table to the lists of its diagram.
pub mod Walks
pub mod WideTable
pub mod Cursors
pub mod Valid
