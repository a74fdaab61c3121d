-- What is proved of items whose texts are joined.
pub mod Items
pub mod Decided
pub mod ReadAgain
