-- What private functions and proofs cite, and no public clause.
pub mod Cutting
pub mod EntryReading
pub mod Feeding
pub mod ItemLengths
pub mod Kept
pub mod Lower
pub mod OpenEntry
pub mod Spans
pub mod Stops
pub mod Walk
pub mod WordTexts
pub mod WordValues
