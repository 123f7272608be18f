pub mod Columns
pub mod Kept
pub mod Laws
pub mod Reading
pub mod Written
