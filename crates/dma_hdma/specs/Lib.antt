pub mod Channel
pub mod Channels
pub mod Pattern
