pub mod Transfers
pub mod Messages
pub mod Records
pub mod Names
pub mod Common
pub mod Conditions
pub mod Fields
pub mod Streams
