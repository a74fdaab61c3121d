-- One entry: what it inherits, and its record or its fault.
pub mod Begun
pub mod Entered
pub mod Heads
pub mod EntryOutcome
pub mod EntryTaken
pub mod Kept
pub mod KeptEntry
pub mod Lines
pub mod RecordsRead
