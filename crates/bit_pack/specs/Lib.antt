pub mod Bits
pub mod Numbers
pub mod Hybrid
pub mod Steps
