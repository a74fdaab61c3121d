pub mod Common
pub mod Halting
pub mod LastLines
pub mod Feeding
pub mod Filters
pub mod Told
