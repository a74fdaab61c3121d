pub mod Canonical
pub mod Denotes
pub mod Device
pub mod OctetVec
pub mod Writing
pub mod Laws
pub mod Machine
