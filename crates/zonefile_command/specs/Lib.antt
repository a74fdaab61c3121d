pub mod Order
pub mod Told
pub mod Presented
pub mod Inputs
pub mod Checks
pub mod Run
pub mod Telling
pub mod Machine
