pub mod Numbers
pub mod Lines
pub mod Files
pub mod OneNumber
pub mod OneText
