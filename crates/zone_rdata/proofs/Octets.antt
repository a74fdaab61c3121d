-- Data as octets: read, made and taken field after field.
pub mod Building
pub mod Bytes
pub mod Each
pub mod LastNumber
pub mod Layouts
pub mod Sent
pub mod StringFields
pub mod Taken
