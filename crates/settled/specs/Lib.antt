pub mod Examples
pub mod Lines
pub mod Readings
pub mod Reckonings
pub mod Samples
pub mod Three
