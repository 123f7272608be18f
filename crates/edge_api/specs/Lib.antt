pub mod Journal
pub mod World
pub mod Actor
pub mod Memory
pub mod Flaky
pub mod Replay
pub mod Streams
pub mod Adapters
