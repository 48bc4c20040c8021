pub mod Choice
pub mod Around
pub mod Put
pub mod Words
