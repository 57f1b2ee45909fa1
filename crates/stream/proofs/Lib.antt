-- What is proved of the definitions of specs/.
pub mod Laws
