pub mod Merges
mod Outcomes
pub mod RowChanges
mod Scopes
mod Values
