-- What is proved of host identities.
pub mod Lengths
pub mod Printed
pub mod PrintedData
pub mod ReadAgain
