pub mod Opcodes
pub mod Status
