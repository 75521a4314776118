pub mod Numbers
pub mod Answering
pub mod Flips
pub mod Mounts
pub mod Judged
pub mod Settled
