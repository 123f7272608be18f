pub mod Entries
pub mod Piece
pub mod Schedule
pub mod Faults
