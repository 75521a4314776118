pub mod Running
pub mod Pricing
pub mod Listed
