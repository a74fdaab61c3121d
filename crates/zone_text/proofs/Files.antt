-- Files: what is decided of a prefix, and what the whole file states.
pub mod DecidedOnce
pub mod Decides
pub mod FileChoice
pub mod Followed
pub mod Left
pub mod Standing
