pub mod Emitter
pub mod EmitterLaws
