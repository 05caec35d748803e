pub mod SamePads
pub mod Played
