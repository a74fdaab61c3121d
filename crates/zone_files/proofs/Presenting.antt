-- Master files in presentation format that are loaded.
pub mod Loads
pub mod Reports
pub mod Readers
pub mod Compared
pub mod Written
pub mod OneReport
pub mod Normalised
