pub mod Rotated
pub mod Lines
