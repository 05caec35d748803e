pub mod Left
pub mod Start
pub mod Sounded
