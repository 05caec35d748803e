pub mod Order
pub mod Screens
