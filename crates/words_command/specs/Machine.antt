-- What only private functions and proofs cite.
pub mod Halting
pub mod Filters
