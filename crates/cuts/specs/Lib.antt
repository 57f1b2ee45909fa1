-- What a cut needs of a pair and leaves of the record; what it answers; an attempt and a cut by their branches.
pub mod Pair
pub mod Answered
pub mod Attempts
