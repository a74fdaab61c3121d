-- What only private functions and proofs cite.
pub mod Parts
pub mod Printed
pub mod Stated
