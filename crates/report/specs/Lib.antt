pub mod Parts
pub mod Report
