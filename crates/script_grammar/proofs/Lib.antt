pub mod Data
pub mod Laws
pub mod Loop
pub mod Whole
pub mod Names
