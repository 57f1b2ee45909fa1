-- A run by what is left of it, and that exchanged labels leave the chain ready.
pub mod Runs
pub mod Kept
pub mod Pairs
