pub mod Common
pub mod Heads
pub mod Entries
pub mod Files
pub mod Tokens
pub mod ExampleRecords
pub mod Scanning
