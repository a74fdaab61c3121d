-- The data of a record, field after field.
pub mod DataFaults
pub mod DataReading
pub mod FieldReading
pub mod ReadFields
