pub mod Names
pub mod Operations
pub mod Plain
pub mod Properties
pub mod Rows
pub mod Tables
