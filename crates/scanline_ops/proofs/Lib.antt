pub mod Mosaic
pub mod Small
