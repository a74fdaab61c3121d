-- What is printed, and that it states the octets.
pub mod Fronts
pub mod PassedNone
pub mod OwnFields
pub mod Graphic
pub mod GraphicTexts
pub mod GraphicItems
pub mod Marks
