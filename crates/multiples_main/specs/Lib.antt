pub mod Rows
pub mod Printed
