pub mod Ordering
pub mod Shown
pub mod Running
pub mod Texts
pub mod Zones
pub mod Counted
