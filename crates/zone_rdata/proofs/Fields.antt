-- What is proved of the kinds of fields: a file each, and what they share.
pub mod Name
pub mod Number
pub mod Address
pub mod OneString
pub mod Strings
pub mod AnyField
pub mod FieldLaws
pub mod FieldLengths
