pub mod Set
pub mod Ranges
