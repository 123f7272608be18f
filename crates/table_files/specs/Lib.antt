pub mod Files
pub mod Commits
