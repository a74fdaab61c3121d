-- Strings in text, unit by unit, and in octets.
pub mod StringLaws
pub mod StringSteps
pub mod Units
pub mod UnescapedRuns
