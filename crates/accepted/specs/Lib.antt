-- What an accepted call has, and what its run leaves of the slices.
pub mod Accepted
