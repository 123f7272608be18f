pub mod Gives
pub mod Kinds
pub mod Lines
pub mod Single
pub mod Written
