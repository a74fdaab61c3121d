-- What is proved of base64.
pub mod Texts
pub mod Groups
pub mod Printed
pub mod Decided
pub mod Graphic
pub mod NotGeneric
pub mod ReadAgain
