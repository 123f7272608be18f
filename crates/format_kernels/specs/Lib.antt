pub mod Commits
pub mod Register
pub mod Kernels
pub mod Tables
