pub mod Plan
pub mod Addresses
pub mod Uses
pub mod Orders
pub mod Remaining
