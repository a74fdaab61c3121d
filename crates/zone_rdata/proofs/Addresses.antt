-- Addresses in text: what they state, and how they are printed.
pub mod AddressChoice
pub mod AddressGaps
pub mod AddressLaws
pub mod AddressOctets
pub mod AddressParts
pub mod Cut
pub mod Digits
