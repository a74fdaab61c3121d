-- What only private functions, invariants and proofs cite.
pub mod LabelKey
pub mod Hint
pub mod Stored
pub mod Held
pub mod Bulk
pub mod Places
pub mod Owner
pub mod Octets
pub mod Unordered
pub mod Distinct
pub mod Marks
