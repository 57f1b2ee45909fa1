-- Laws of copies. The contracts cite the model alone.
pub mod Copies
