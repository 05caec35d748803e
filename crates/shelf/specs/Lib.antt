pub mod Counts
pub mod Outs
pub mod Shown
pub mod Told
