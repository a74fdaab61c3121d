pub mod Checking
pub mod FoundLine
pub mod Machine
