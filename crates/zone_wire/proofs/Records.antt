-- The records of a message's answers.
pub mod Answering
pub mod NextAnswers
pub mod Pending
