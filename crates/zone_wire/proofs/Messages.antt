-- Messages, section by section.
pub mod AlikeMessages
pub mod MessageFaults
pub mod Sections
