-- What is proved of hexadecimal digits.
pub mod Digits
pub mod Printed
pub mod Decided
pub mod Graphic
pub mod NotGeneric
pub mod ReadAgain
