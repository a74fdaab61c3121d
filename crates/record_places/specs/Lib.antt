pub mod FirstLines
pub mod Machine
