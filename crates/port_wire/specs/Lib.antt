pub mod Answers
pub mod Reach
pub mod Seen
pub mod Tally
pub mod Whole
pub mod Counts
