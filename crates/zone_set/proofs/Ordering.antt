-- The canonical order, and what stands together in it.
pub mod Ascending
pub mod Between
pub mod Interval
pub mod Neighbours
pub mod Octets
pub mod Owners
pub mod SetOrder
pub mod Within
