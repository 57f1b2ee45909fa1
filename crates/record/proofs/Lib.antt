-- Lemmas that other crates cite too.
pub mod Frames
