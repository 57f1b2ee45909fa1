-- What the functions below `contract` compute. Its own contract cites the model alone.
pub mod Blocks
