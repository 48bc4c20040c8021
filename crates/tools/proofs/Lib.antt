pub mod Set
pub mod Same
