pub mod Expected
pub mod Ends
