-- What is proved of numbers and types by their mnemonics.
pub mod Once
pub mod Decided
pub mod Graphic
pub mod NotGeneric
