pub mod Lines
pub mod Tabs
pub mod Turns
