pub mod NamesInData
pub mod Machine
