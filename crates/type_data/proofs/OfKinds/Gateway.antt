-- What is proved of gateways and relays.
pub mod Fields
pub mod Printed
pub mod Relays
pub mod Decided
pub mod Graphic
pub mod Ipseckey
