pub mod Gone
pub mod Moves
pub mod Serial
pub mod SerialRun
pub mod Sides
pub mod Tape
pub mod TapeLaws
