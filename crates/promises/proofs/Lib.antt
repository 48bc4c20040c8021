pub mod OneAnswer
pub mod OfTheCode
