pub mod Checks
pub mod FoundLines
