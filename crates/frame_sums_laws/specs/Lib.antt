pub mod RunSums
