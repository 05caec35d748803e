pub mod Status
pub mod Timers
pub mod Speeds
pub mod Addresses
pub mod Pages
pub mod Zeros
pub mod Starts
mod Copies
mod Stretches
mod Arithmetic
mod Stills
