pub mod Replies
pub mod Order
