-- Names as octets, and how they compare.
pub mod Comparing
pub mod Evens
pub mod LookedUp
pub mod OctetLanes
pub mod Octets
pub mod Pushing
pub mod Runs
