pub mod Sizes
pub mod StepInPlace
