pub mod Pairing
pub mod Multiples
pub mod Divisors
pub mod Notions
