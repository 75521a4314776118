pub mod Fixed
pub mod Draws
