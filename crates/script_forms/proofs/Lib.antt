pub mod Tables
pub mod Lines
pub mod ItemLines
pub mod Places
pub mod Pieces
pub mod Longs
pub mod Fits
pub mod Scripts
