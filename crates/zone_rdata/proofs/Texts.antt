-- The canonical text of data.
pub mod PrintedWords
pub mod Standing
pub mod TextItems
pub mod DigitLanes
pub mod TextLengths
pub mod FieldTexts
pub mod StopTexts
