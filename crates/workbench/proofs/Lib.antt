pub mod Counting
pub mod Faults
pub mod Hybrids
pub mod Numerals
