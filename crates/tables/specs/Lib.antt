pub mod Indexes
pub mod States
pub mod Reads
pub mod Markings
pub mod Probes
pub mod Additions
