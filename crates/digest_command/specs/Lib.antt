pub mod Order
pub mod Lines
pub mod Run
pub mod Machine
