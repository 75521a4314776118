pub mod Fixing
pub mod Drawn
