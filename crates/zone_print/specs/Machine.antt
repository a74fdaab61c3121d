-- What only private functions and proofs cite.
pub mod Middle
pub mod Writing
