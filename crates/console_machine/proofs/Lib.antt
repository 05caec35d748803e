pub mod AtOnce
mod Copies
pub mod Few
pub mod Follows
pub mod Looks
pub mod Over
pub mod PortRuns
pub mod PortAccesses
pub mod Ports
pub mod Rounds
pub mod Runs
pub mod Wholes
