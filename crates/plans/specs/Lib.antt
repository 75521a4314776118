pub mod Results
pub mod Orders
pub mod Plain
pub mod Reaching
pub mod Holding
pub mod Settling
pub mod Decoding
pub mod Listing
