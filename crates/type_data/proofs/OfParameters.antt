-- What is proved of parameters.
pub mod Graphic
mod DecidedValues
pub mod Decided
pub mod Keys
pub mod Escapes
pub mod Lists
pub mod Ascending
pub mod KeyLists
pub mod Protocols
pub mod Listed
pub mod Texts
pub mod Values
pub mod Reading
pub mod Once
pub mod OneFault
mod Marked
pub mod PrintedAddresses
pub mod PrintedProtocols
pub mod SentOctets
pub mod PrintedKeys
pub mod Stops
pub mod PrintedValues
pub mod EachPrinted
mod PrintedTexts
pub mod PrintedStated
pub mod Count
