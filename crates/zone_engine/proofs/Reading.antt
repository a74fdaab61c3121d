-- From what a reader gives to what an input is read as.
pub mod Inputs
pub mod Taken
pub mod Readers
