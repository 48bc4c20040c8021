pub mod Short
pub mod Puts
pub mod Turns
pub mod Printed
pub mod Answers
