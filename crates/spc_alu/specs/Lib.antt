pub mod Status
pub mod Sums
pub mod Changes
pub mod Words
pub mod Arithmetic
pub mod Bits
pub mod Flow
pub mod Results
