pub mod ConsoleState
pub mod Stands
pub mod Parts
pub mod Draws
pub mod AtOnce
pub mod Plain
pub mod PlainPlaces
pub mod Targets
