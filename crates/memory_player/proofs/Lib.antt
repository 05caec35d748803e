pub mod Fronts
pub mod Puts
pub mod Reading
pub mod Takes
