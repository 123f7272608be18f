pub mod Gives
pub mod Words
pub mod Quoted
pub mod Text
pub mod Tokens
pub mod Reading
