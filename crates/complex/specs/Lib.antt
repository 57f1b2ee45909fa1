-- What a reader must believe of complex numbers and of lists of them, each file with the laws of its own words.
pub mod Complex
pub mod Loops
pub mod Parts
pub mod Numbers
pub mod Matrix
