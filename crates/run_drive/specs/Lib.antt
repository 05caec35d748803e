pub mod Driven
pub mod Ended
pub mod OutputLaws
pub mod Outputs
pub mod Played
pub mod Run
