pub mod Memory
pub mod Plan
pub mod Shelves
pub mod Stored
