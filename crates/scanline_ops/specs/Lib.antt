pub mod RankedPixels
pub mod Colours
