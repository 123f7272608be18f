mod Chain
mod Listings
pub mod Places
mod Stages
mod Versions
