-- The factors of a cut where they stand in the factored list, and that they are the model's; rows that fill a slot.
pub mod Factors
pub mod Sites
pub mod Whole
