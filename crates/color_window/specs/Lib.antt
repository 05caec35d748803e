pub mod Windows
pub mod Mixing
