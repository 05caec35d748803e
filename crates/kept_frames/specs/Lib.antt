pub mod Boxes
pub mod Coded
pub mod Kept
pub mod Left
