pub mod Words
pub mod Status
pub mod Parquet
pub mod Reading
