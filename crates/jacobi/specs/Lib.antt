-- What the kernels of rotations do with a factor that has its negated imaginary part beside it.
pub mod Factors
