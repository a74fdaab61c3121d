pub mod Order
pub mod Telling
pub mod Filtering
pub mod Run
pub mod Machine
