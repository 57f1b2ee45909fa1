-- The entries of a record's arrays, given by a closure, and the slots of a store.
pub mod Given
pub mod Sites
