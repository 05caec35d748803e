pub mod Path
pub mod Positions
pub mod Stepped
pub mod Handed
pub mod PathLaws
