pub mod Making
pub mod Machine
pub mod Place
pub mod Txn
pub mod Starting
