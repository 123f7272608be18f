pub mod Tables
pub mod Lines
pub mod Items
pub mod Limits
pub mod Places
pub mod Scripts
pub mod Fit
