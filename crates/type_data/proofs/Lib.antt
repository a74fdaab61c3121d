pub mod Common
pub mod PassedFaults
pub mod Printed
pub mod PrintedStanding
pub mod TypeRegistry
mod MnemonicOf
mod ReadFields
pub mod UnescapedTexts
pub mod OfParameters
pub mod FurtherWords
pub mod FieldLaws
mod EachItems
pub mod DataLaws
pub mod Decided
pub mod FaultsOnce
mod GivenItems
pub mod Cuts
pub mod Registered
pub mod PrintedRows
pub mod PrintedStates
pub mod PrintedKinds
pub mod PrintedFields
pub mod PrintedEach
pub mod PrintedInRow
pub mod PrintedCount
pub mod PrintedWords
pub mod PrintedDataLaws
pub mod OfKinds
