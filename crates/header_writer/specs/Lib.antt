pub mod Checksum
pub mod Refusal
pub mod Written
