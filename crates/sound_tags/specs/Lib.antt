pub mod Fields
pub mod Put
pub mod SoundFile
pub mod Number
pub mod Header
pub mod Chunks
pub mod AllTags
