pub mod LineLaws
pub mod StepLaws
