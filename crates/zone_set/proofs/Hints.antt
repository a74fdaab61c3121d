-- Numbers that have the order of owners and records as far as they tell them apart.
pub mod ByHint
pub mod Digits
pub mod HintOrder
pub mod HintWalk
pub mod Keyed
pub mod LabelKey
pub mod Numbers
pub mod Own
