-- The proofs of what is promised, and document 01's examples.
pub mod Promises
pub mod Worked
