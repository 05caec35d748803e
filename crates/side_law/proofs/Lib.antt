pub mod Gone
pub mod Cleared
pub mod SilentSteps
pub mod SerialKeeps
pub mod SerialRuns
