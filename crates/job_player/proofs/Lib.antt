pub mod Ends
pub mod Remains
pub mod Plays
pub mod Ready
pub mod Planning
pub mod InTime
pub mod SoundLemmas
