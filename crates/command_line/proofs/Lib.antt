pub mod Adding
pub mod Asked
pub mod Rows
pub mod Telling
