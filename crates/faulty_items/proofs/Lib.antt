pub mod Common
pub mod CanGoOn
pub mod SpeltValues
pub mod ShownOctets
pub mod Reading
pub mod Digits
pub mod TouchingItems
pub mod EntryParts
