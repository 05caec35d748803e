pub mod Demo
pub mod Image
