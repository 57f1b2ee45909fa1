-- What a reader must believe of run records, each file with the laws of its own words, and the worked records of document 01.
pub mod Layout
pub mod Fields
pub mod Reading
pub mod Frames
pub mod GateBytes
pub mod Worked
