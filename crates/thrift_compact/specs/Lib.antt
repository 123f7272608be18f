pub mod Varints
pub mod Places
pub mod Values
pub mod Writing
pub mod Skipped
pub mod Spelled
pub mod Laws
pub mod SkipFaults
