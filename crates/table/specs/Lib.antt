pub mod Positions
pub mod Cursors
pub mod Valid
pub mod Laws
