pub mod Chunks
pub mod Starts
pub mod Machine
