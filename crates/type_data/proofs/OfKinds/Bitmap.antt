-- What is proved of type bitmaps.
pub mod Bits
pub mod Once
pub mod Sorted
pub mod Decided
