-- Times.
pub mod TimeLaws
