pub mod ColumnSteps
pub mod DotSteps
mod SmallSteps
