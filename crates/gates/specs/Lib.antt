-- What a reader must believe of gates, each file with the laws of its own words.
pub mod Gate
pub mod Named
pub mod Finite
