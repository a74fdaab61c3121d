-- What only private functions and proofs cite.
pub mod Adding
pub mod Telling
