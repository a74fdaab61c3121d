-- One record more among those that are held.
pub mod Adding
pub mod Finishing
pub mod Inserting
pub mod Putting
pub mod Together
