pub mod Least
pub mod Lines
pub mod Reading
pub mod Sought
