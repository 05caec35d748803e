pub mod Quiet
