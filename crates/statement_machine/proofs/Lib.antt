mod Literals
mod Partitions
mod Stages
mod Chain
pub mod Places
