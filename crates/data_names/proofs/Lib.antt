pub mod Lowered
pub mod Once
pub mod Walks
