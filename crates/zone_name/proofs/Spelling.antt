-- The name that a text spells, or its first fault.
pub mod Ahead
pub mod Answered
pub mod Folding
pub mod Letters
pub mod Marks
pub mod Only
pub mod Plain
pub mod Spelled
pub mod Steps
pub mod Units
pub mod WholeText
