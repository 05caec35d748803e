pub mod Cycles
pub mod Firsts
