-- What only private functions and proofs cite, of all kinds.
pub mod Fields
pub mod PrintedFields
pub mod Cuts
pub mod Taking
