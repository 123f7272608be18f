pub mod Journal
pub mod Words
pub mod Top
