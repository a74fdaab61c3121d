-- What private functions and proofs cite, and no public clause.
pub mod AddressReading
pub mod Printing
pub mod Appending
pub mod TimeProgress
pub mod Building
pub mod Fronts
pub mod GenericLength
pub mod Unescaped
