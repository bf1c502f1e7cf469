pub mod Ordered
pub mod Laws
