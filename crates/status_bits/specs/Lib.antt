pub mod StatusBits
