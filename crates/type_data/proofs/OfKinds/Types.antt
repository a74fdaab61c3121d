-- What is proved of lists of types.
pub mod Items
pub mod Printed
pub mod Count
pub mod Graphic
