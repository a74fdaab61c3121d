-- What only private functions, invariants and proofs cite.
pub mod Sets
pub mod Walk
pub mod Reading
pub mod Seen
