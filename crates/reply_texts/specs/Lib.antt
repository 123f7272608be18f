pub mod Literals
pub mod Replies
