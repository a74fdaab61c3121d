-- What only private functions and proofs cite.
pub mod Walking
pub mod KnownItems
pub mod EntryWriting
pub mod FedWriting
pub mod Further
pub mod Turn
