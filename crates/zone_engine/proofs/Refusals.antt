-- Which records of an input are refused, and which are accepted.
pub mod Parting
pub mod Refusing
pub mod Deciding
pub mod Decided
pub mod Making
