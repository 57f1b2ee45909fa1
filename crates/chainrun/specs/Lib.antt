pub mod Program
pub mod Room
