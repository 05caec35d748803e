pub mod Steps
pub mod Pairs
pub mod StemSteps
