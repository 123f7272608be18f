pub mod Session
pub mod Under
