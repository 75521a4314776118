pub mod Halves
pub mod Joined
pub mod Strapped
pub mod Passing
pub mod Rooted
