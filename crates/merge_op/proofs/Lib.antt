pub mod Assembled
mod Beside
mod FileSteps
mod KeyData
pub mod Keyings
pub mod Least
mod Meeting
pub mod Scoped
mod SameBags
pub mod Widths
