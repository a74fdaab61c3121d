-- What is proved of salts.
pub mod Once
pub mod Decided
pub mod Graphic
pub mod ReadAgain
