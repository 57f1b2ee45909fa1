-- How many numbers a matrix and its r have.
pub mod Thin
