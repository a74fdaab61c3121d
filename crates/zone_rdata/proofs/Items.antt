-- What items state for a layout, in words or in the generic form, and why they state nothing.
pub mod Forms
pub mod GenericLaws
pub mod ItemLaws
pub mod LeftOut
pub mod ReadDigits
pub mod Values
