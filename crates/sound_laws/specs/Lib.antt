pub mod Silence
pub mod Ends
pub mod PlaysOn
pub mod Parts
