pub mod Accepted
pub mod Puts
pub mod Seen
pub mod Stands
pub mod Sums
