-- What projection and reset have in common, and how the definitions of both are cases of it.
pub mod Kept
pub mod Draw
