pub mod Stamps
pub mod Newest
pub mod Table
pub mod Keys
pub mod Kept
pub mod Listed
