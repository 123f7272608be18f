mod Faults
mod Tables
mod Versions
mod Loads
mod Replays
pub mod Chain
