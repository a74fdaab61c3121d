-- What is proved of numbers.
pub mod Read
pub mod Printed
pub mod Decided
pub mod Graphic
