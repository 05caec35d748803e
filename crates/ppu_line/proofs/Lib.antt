pub mod Painted
pub mod FrontSteps
pub mod Halves
