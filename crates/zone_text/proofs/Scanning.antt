-- What a scan finds of octets: where entries end, and which are read at one look.
pub mod FedPieces
pub mod FirstEntries
pub mod StopMarks
pub mod Unfinished
pub mod Walking
