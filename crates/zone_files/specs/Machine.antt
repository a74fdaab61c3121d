-- What only private functions and proofs cite.
pub mod Loading
pub mod Told
pub mod Naming
pub mod Stepping
pub mod Progressing
pub mod Expanding
pub mod Lines
pub mod Stacking
pub mod ExpandedLoading
pub mod OpenReading
pub mod StepsLeft
