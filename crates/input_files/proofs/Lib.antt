pub mod Resets
pub mod Plans
