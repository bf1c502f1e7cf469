pub mod Told
pub mod Members
pub mod Widened
