pub mod Plan
pub mod Uses
pub mod Addresses
pub mod Orders
pub mod Remaining
