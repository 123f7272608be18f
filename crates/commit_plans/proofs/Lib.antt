pub mod Wholes
mod Parts
mod Maps
mod Stamps
