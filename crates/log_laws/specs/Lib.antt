pub mod Replay
pub mod Written
pub mod Versions
pub mod Example
