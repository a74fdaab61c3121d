mod GenericOctets
mod Forms
mod Headline
mod Presenting
pub mod FileNames
pub mod Pieces
pub mod Expansions
pub mod Stacks
mod ExpandedLoads
pub mod FilesReading
mod FilesLoading
pub mod ReadingEnds
pub mod FilesStops
mod FilesWriting
mod FilesHeadline
