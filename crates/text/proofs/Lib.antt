pub mod Decimals
pub mod LastDigits
pub mod Signs
pub mod Wrote
