pub mod OneAnswer
pub mod Calls
pub mod OfTheCode
