pub mod Lines
pub mod RoundTrip
