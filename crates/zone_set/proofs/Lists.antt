-- Records that are listed as they come, settled, and read back.
pub mod Differing
pub mod ListPush
pub mod Listing
pub mod Looking
pub mod Offering
pub mod Once
pub mod Repeats
pub mod Seeing
pub mod Taking
pub mod Thinning
