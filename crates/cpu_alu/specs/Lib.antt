pub mod Width
pub mod Sums
pub mod Changes
pub mod Registers
pub mod Flow
pub mod Results
