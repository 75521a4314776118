pub mod Changing
pub mod Counted
