pub mod Origin
pub mod LineFault
pub mod Order
pub mod Answering
