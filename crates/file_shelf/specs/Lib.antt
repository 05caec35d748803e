pub mod Edge
pub mod Given
pub mod Known
pub mod Shelves
