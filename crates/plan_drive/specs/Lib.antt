pub mod Paths
pub mod Joins
pub mod Samples
