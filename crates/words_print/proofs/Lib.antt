mod Joined
mod Lines
mod Fed
mod Canonical
mod FirstLine
mod Classed
mod Read
mod Told
pub mod Cuts
mod DataEnds
mod Heads
mod Fitting
mod CanonicalLines
mod Origins
mod OneText
mod OneItems
