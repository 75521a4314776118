pub mod Rising
pub mod Stepping
pub mod Blocks
pub mod Ends
