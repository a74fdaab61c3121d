pub mod Common
pub mod Classes
pub mod Origins
pub mod Following
pub mod Walks
pub mod Files
pub mod FedTexts
pub mod Standing
pub mod OneRewriting
pub mod HasRewriting
pub mod OwnRewriting
mod EntryShapes
mod CutEntries
pub mod WrittenWords
mod KeptEntries
pub mod RewrittenCut
mod SameStatements
pub mod RewrittenAgain
mod JoinedKinds
mod JoinedRefused
mod JoinedReading
mod JoinedEntries
mod JoinedFiles
mod JoinedStopped
mod JoinedFaults
mod JoinedRefusals
pub mod KeptRecords
pub mod Turns
pub mod KnownItems
pub mod BecomesOnce
pub mod Moved
mod HeadLines
mod InWords
mod GenericLines
pub mod DecidedEntries
