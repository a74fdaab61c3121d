-- What is proved of values up to the end of the data.
pub mod ReadAgain
pub mod Decided
pub mod Graphic
