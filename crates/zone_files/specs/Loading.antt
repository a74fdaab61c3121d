-- Master files in presentation format that are loaded in pieces or from a reader.
pub mod Report
pub mod Fed
pub mod Reading
pub mod Compare
