pub mod Wholes
pub mod Sums
pub mod PieceLemmas
pub mod WriteLemmas
pub mod OneReading
