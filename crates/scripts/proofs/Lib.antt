pub mod Wording
pub mod Counting
pub mod Ordering
pub mod Settled
