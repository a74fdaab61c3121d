-- What is proved of addresses.
pub mod Printed
pub mod Graphic
