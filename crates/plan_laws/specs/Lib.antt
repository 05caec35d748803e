pub mod Presses
