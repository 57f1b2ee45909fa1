-- What is printed for a whole input, and what a piece of it does; document 01's inputs, and what is promised of it.
pub mod Output
pub mod Feeding
pub mod Pieces
pub mod Marked
pub mod Promises
