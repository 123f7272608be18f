pub mod States
pub mod Packings
pub mod Checksums
pub mod Plain
pub mod Paths
pub mod Adds
pub mod Rows
pub mod Padding
