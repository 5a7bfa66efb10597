pub mod Rows
pub mod Numbers
pub mod Steps
pub mod Parts
