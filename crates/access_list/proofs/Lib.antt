pub mod Agreeing
pub mod Bytes
pub mod Hits
pub mod Indexed
pub mod Past
pub mod Words
