-- Lemmas that other crates' proofs cite too.
pub mod Value
