pub mod Cuts
pub mod Files
pub mod Firsts
pub mod Grouped
pub mod Lengths
pub mod Ordered
pub mod Parts
pub mod Values
