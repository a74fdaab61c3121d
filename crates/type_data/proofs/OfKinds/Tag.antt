-- What is proved of tags.
pub mod Printed
pub mod Decided
pub mod Graphic
