pub mod Digits
pub mod EntryItems
pub mod OneLines
pub mod TemplateSteps
pub mod ValueLines
