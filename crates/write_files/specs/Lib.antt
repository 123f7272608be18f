pub mod Order
pub mod Pieces
pub mod Files
pub mod Phase
pub mod Laws
