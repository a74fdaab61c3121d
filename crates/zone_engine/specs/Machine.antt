-- What only private functions and proofs cite.
pub mod Fed
pub mod FileLoading
pub mod Input
pub mod Loading
