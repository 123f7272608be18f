pub mod Properties
pub mod Plans
pub mod Texts
pub mod Made
pub mod Laws
