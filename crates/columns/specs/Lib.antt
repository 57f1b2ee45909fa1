-- Laws of cleared slots. The contracts cite the model alone.
pub mod Cleared
