pub mod Changes
pub mod Images
pub mod Laws
pub mod Operations
pub mod Outcomes
