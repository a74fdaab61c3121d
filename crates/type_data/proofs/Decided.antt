-- What items state, or why they state nothing: one of the two, for each kind of field.
pub mod Choices
pub mod Items
pub mod Fields
pub mod Cuts
