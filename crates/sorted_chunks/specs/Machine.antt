-- What only private functions cite.
pub mod Halves
pub mod Splits
