pub mod Tree
pub mod Reading
pub mod Written
pub mod Grammar
pub mod ReadBack
