pub mod Accept
pub mod Clocks
pub mod Fold
pub mod Place
