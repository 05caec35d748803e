pub mod Generator
pub mod Hash
pub mod Number
