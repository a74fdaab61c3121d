-- The words before a record's type.
pub mod ClassWords
pub mod PartsLeft
pub mod WordsLeft
