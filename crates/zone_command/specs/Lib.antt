pub mod Order
pub mod Run
