pub mod Widths
pub mod Counts
pub mod Known
