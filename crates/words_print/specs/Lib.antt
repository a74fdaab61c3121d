pub mod Shown
pub mod Printer
pub mod Machine
