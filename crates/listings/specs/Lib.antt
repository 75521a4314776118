pub mod Rows
pub mod Fronts
pub mod Numbers
pub mod Labels
pub mod Lists
