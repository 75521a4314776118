-- The model: selections, their trees and parts, ordered diagrams, and listings.
pub mod Lists
pub mod Trees
pub mod Parts
pub mod Selections
pub mod Orders
pub mod Joins
pub mod Diagrams
pub mod Numberings
pub mod Layouts
pub mod Listings
pub mod Theorems
pub mod Examples
