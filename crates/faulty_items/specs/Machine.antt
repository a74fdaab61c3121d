-- What only private functions and proofs cite.
pub mod FurtherReading
pub mod LaidOutReading
pub mod EntryReading
