-- Names in messages: the walk over labels and pointers.
pub mod Computing
pub mod RunLaws
pub mod Spots
pub mod Walking
