pub mod Reading
pub mod Judging
pub mod Listing
pub mod Readers
pub mod Machine
pub mod Place
pub mod Txn
pub mod Plain
