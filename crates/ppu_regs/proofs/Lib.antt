pub mod Zeros
pub mod Ranges
pub mod Tops
