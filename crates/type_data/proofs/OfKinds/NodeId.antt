-- What is proved of node identifiers.
pub mod Once
pub mod Decided
pub mod Graphic
pub mod Printed
pub mod ReadAgain
