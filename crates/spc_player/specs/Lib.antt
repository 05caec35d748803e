pub mod SoundFile
pub mod Play
pub mod Player
pub mod Apart
