pub mod Door
pub mod Counts
pub mod Exact
