pub mod Put
pub mod Words
pub mod Exactly
