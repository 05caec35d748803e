pub mod Bits
pub mod Dots
pub mod Pages
pub mod Picture
pub mod Ports
pub mod Reads
pub mod Tops
pub mod Writes
