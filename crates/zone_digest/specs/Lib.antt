pub mod Digest
pub mod Verdict
pub mod Findings
pub mod Wanted
pub mod Laws
pub mod Machine
