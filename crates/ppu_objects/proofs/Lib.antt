pub mod Firsts
pub mod Seen
pub mod Lines
pub mod Marks
mod Pairs
