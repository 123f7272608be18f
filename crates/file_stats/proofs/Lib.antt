mod Places
mod Steps
pub mod Orders
pub mod Truths
mod ReadBack
mod Fitting
