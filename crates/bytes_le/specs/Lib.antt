-- What a reader must believe of numbers in bytes.
pub mod Value
pub mod Patterns
