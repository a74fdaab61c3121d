-- How a text is read from the left. Private functions and proofs cite this, and no public clause
-- does.
pub mod Units
pub mod LabelWalk
pub mod Seen
pub mod Letters
pub mod Plain
pub mod Shown
pub mod Joined
pub mod Formatted
