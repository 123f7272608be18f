pub mod Digits
pub mod Names
pub mod Told
pub mod Faults
pub mod Protocols
pub mod Intervals
pub mod Properties
