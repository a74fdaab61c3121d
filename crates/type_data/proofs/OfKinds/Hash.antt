-- What is proved of hashes in base32hex.
pub mod Digits
pub mod Printed
pub mod Decided
pub mod Graphic
