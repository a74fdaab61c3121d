-- A text cut into tokens, and the items of these.
pub mod CutAgain
pub mod Cuttings
pub mod FirstTokens
pub mod ForGood
pub mod WrittenItems
pub mod Lasting
pub mod Spans
pub mod StandingItems
