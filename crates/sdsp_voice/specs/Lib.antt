pub mod Signed
pub mod Registers
pub mod Brr
pub mod Envelope
pub mod Interpolation
pub mod Noise
pub mod Keys
pub mod Sample
