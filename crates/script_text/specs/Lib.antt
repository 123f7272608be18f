pub mod Lines
pub mod Items
pub mod Places
pub mod Scripts
pub mod Fit
