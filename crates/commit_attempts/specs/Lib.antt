pub mod Judging
pub mod Faults
pub mod Attempts
pub mod Machine
pub mod Steps
