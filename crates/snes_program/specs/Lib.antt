pub mod Commands
pub mod Snes
