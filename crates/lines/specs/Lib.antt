-- What a reader must believe of printed lines, the laws of writing them byte by byte, and document 01's lines.
pub mod Text
pub mod Writing
pub mod Worked
