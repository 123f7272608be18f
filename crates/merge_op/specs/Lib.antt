pub mod Found
pub mod Matches
pub mod Merges
pub mod Operations
