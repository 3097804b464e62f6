pub mod Casts
pub mod RowSteps
pub mod Shares
pub mod Columns
