pub mod OpenReplies
pub mod Sessions
pub mod Stands
