pub mod Passes
pub mod Looks
pub mod Fetching
pub mod Uses
pub mod Runs
