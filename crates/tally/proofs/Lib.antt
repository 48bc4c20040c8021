pub mod Steps
pub mod Whole
pub mod Standing
pub mod RowCounts
