-- What is proved of locations.
pub mod Scaled
pub mod Places
mod PlaceChoices
pub mod Once
pub mod Printed
pub mod Count
pub mod Graphic
pub mod NotGeneric
