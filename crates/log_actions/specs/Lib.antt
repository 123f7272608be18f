pub mod Paths
pub mod Actions
pub mod Twice
pub mod Commit
pub mod Named
pub mod Written
pub mod Grammar
pub mod Whole
