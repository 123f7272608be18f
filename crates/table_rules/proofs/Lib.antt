pub mod Numerals
pub mod Ids
pub mod Names
pub mod Paths
pub mod Intervals
pub mod Properties
