pub mod Scans
pub mod Obeying
pub mod Lasts
pub mod Covers
