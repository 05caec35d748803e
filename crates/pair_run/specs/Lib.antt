pub mod Leg
pub mod Over
pub mod OverWhole
pub mod Tried
pub mod Turn
