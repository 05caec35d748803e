pub mod Covering
pub mod Near
pub mod Objects
pub mod Slivers
pub mod Ranks
