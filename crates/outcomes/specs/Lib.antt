-- What projection and reset of a site leave of the chain and its store.
pub mod Slot
