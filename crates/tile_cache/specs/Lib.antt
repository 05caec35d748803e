pub mod Bitplanes
