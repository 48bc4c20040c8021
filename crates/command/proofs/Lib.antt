pub mod Points
pub mod Tools
pub mod Words
pub mod Lines
