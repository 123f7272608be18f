pub mod Runs
pub mod Texts
pub mod Numbers
pub mod Symbols
pub mod Lines
