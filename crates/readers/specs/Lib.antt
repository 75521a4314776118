pub mod Changes
pub mod Selections
pub mod Entries
pub mod Apart
