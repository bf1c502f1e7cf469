pub mod Puts
pub mod Talks
