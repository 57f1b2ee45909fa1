-- The laws by which the functions meet the definitions, that the table of inputs holds, and the proofs of what is promised.
pub mod Marked
pub mod Pieces
pub mod Promises
pub mod Turns
