pub mod Boxed
pub mod Steps
