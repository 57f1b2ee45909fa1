-- A pair's bonds; room for one step and what it writes; what a move needs of the chain, which every call leaves; the turns of the walks; what a call makes of it.
pub mod Bonds
pub mod Steps
pub mod Ready
pub mod Walks
pub mod Mps
