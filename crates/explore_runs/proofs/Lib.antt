pub mod Going
pub mod Bytes
