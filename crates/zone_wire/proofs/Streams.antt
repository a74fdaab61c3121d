-- Streams of octets, frame by frame.
pub mod Feeding
pub mod OneStream
