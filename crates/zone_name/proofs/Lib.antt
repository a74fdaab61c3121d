pub mod InOctets
pub mod Texts
pub mod Spelling
pub mod Common
