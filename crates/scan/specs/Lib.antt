pub mod Faults
pub mod Files
pub mod Scans
pub mod Reader
pub mod Machine
