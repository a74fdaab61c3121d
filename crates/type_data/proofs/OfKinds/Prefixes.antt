-- What is proved of prefixes of addresses.
pub mod Once
pub mod Printed
pub mod Graphic
pub mod Decided
pub mod Count
pub mod NotGeneric
