pub mod Rank
pub mod Shares
