-- What bounds room.
pub mod Ranges
