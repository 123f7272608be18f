pub mod Bagged
mod Found
pub mod Gathering
pub mod Lesser
pub mod Split
pub mod Told
mod Together
pub mod Untouched
pub mod Widths
mod Passing
