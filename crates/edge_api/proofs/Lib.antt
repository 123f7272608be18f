pub mod Completions
pub mod Objects
pub mod Streams
pub mod ObjectLists
