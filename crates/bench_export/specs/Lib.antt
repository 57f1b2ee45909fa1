-- What a list of gate records and one of layers leave of a chain.
pub mod Gates
