pub mod Common
pub mod Placing
pub mod Halving
pub mod Parting
pub mod Neighbours
