pub mod Heard
pub mod History
pub mod Leg
pub mod OnRun
