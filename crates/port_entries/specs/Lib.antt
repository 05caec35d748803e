pub mod Entry
pub mod LastValue
pub mod Window
