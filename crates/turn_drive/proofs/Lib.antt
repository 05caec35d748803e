pub mod Counted
pub mod Going
pub mod Taken
