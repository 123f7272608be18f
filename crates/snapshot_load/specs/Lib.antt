pub mod Listing
pub mod Commits
pub mod Faults
pub mod Loads
pub mod Readers
pub mod Machine
pub mod Marks
pub mod Laws
