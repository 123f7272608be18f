pub mod Newer
pub mod Stamps
pub mod Tables
mod Steps
pub mod Owns
pub mod InOrder
