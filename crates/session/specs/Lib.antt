-- What one record of a run does, and what is promised of it.
pub mod Session
pub mod Promises
