pub mod Common
pub mod Hints
pub mod Ordering
pub mod Holding
pub mod Storage
pub mod Lists
