pub mod Formats
pub mod Verdict
pub mod Rules
pub mod Meaning
pub mod Theorems
