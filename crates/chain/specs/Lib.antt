-- That what each call leaves is what the model defines.
pub mod Ends
