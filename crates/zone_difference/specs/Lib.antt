pub mod Difference
pub mod Folded
pub mod Lacked
pub mod Left
pub mod Text
pub mod Walk
