pub mod Capped
pub mod Puts
pub mod PutFound
