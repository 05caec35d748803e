pub mod FrameBytes
pub mod FrameLaws
pub mod Frames
pub mod Joined
pub mod Told
