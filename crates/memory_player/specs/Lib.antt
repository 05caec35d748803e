pub mod Filled
pub mod Inputs
pub mod Played
pub mod SliceLaws
pub mod Slices
