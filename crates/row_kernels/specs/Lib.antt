pub mod Rows
pub mod Scopes
pub mod Files
pub mod Kernels
