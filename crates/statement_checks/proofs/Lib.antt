mod Bound
mod Fitting
mod Narrow
mod Partitions
mod Read
