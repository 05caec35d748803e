pub mod Counting
pub mod States
