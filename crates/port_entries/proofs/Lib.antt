pub mod LastValues
pub mod Seen
