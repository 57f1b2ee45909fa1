-- Tests of every entry that ask something of the first ones alone; what the first tests of a record say.
pub mod First
pub mod Tested
