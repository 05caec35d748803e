pub mod Drives
pub mod Ending
pub mod Taking
pub mod Running
