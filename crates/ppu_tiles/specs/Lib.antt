pub mod Backgrounds
pub mod Columns
pub mod Modes
