pub mod TableLength
