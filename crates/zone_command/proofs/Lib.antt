pub mod Common
pub mod Running
