pub mod Same
pub mod Views
pub mod Endings
