-- What is proved of character-strings.
pub mod Items
pub mod Printed
pub mod Count
pub mod Decided
pub mod Graphic
pub mod NotGeneric
pub mod ReadAgain
