-- What the functions below the public ones compute, and that it is what the model defines. The contracts of the public functions cite the model alone.
pub mod Products
pub mod Steps
