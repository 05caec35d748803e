pub mod Begins
pub mod Jobs
pub mod Paths
pub mod Puts
pub mod Standing
pub mod Sizes
