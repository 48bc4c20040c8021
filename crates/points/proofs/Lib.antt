pub mod Quarters
pub mod Signed
pub mod Same
