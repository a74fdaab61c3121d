-- What is proved of identifiers of hardware.
pub mod Pairs
pub mod Decided
pub mod Graphic
pub mod NotGeneric
pub mod Printed
pub mod ReadAgain
