pub mod Order
pub mod Zone
pub mod Builder
pub mod Refusal
pub mod ZoneList
pub mod Bounded
pub mod Message
pub mod Machine
