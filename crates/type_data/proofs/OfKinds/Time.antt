-- What is proved of times.
pub mod Years
pub mod Once
pub mod Printed
pub mod Decided
pub mod Graphic
