pub mod Mixed
pub mod Left
pub mod Records
pub mod Growth
pub mod Walk
pub mod Theorems
