pub mod Codes
pub mod Growths
