-- What is proved of octets after their length.
pub mod Lengths
pub mod Printed
pub mod Decided
pub mod ReadAgain
