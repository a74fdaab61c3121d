-- Records as octets keep them, and where they stand.
pub mod Heads
pub mod Kept
pub mod MessageLens
pub mod PlaceSteps
pub mod Storing
