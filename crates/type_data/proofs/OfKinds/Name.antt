-- What is proved of domain names.
pub mod Once
pub mod Printed
pub mod ReadAgain
pub mod Count
pub mod Decided
pub mod Graphic
pub mod NotGeneric
