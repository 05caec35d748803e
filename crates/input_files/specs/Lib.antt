pub mod Fields
pub mod Script
pub mod Table
pub mod Plan
