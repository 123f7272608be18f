pub mod Judging
pub mod Judged
pub mod Outcome
pub mod Bounds
pub mod Answered
pub mod Place
pub mod Laws
