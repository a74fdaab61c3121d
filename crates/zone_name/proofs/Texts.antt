-- The canonical text of names.
pub mod Bare
pub mod Fitting
pub mod Lawful
pub mod Lengths
pub mod Sinks
