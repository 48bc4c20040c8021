pub mod Same
pub mod Said
pub mod Revisions
pub mod Columns
pub mod Ranges
