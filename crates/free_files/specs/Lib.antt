pub mod Boot
pub mod Interpolation
