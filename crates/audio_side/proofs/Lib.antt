mod Copies
pub mod Frames
pub mod Zeros
pub mod Moves
pub mod Ticks
pub mod FromParts
pub mod BootOver
pub mod Runs
pub mod PortRuns
pub mod FreeSteps
pub mod Follows
pub mod Stems
