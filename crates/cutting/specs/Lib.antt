-- What stands in the work slice after a decomposition, and what a cut keeps of it.
pub mod Shape
pub mod Kept
