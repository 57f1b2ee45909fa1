-- What one step of a walk needs of the chain, and how the steps follow each other.
pub mod Walk
