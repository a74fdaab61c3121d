-- Transfers, message by message.
pub mod GivenMessages
pub mod GivenTransfers
pub mod OneReading
pub mod Progress
