-- What only private functions, invariants and proofs cite.
pub mod Answers
pub mod Data
pub mod DataReading
pub mod Feeding
pub mod Finding
pub mod Parsing
pub mod Room
pub mod Spot
pub mod Sections
pub mod Transferring
pub mod Walk
