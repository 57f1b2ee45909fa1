-- What is proved of the definitions: Statements states it, Laws proves it.
pub mod Laws
