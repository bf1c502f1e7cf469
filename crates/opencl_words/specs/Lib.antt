pub mod Bytes
pub mod Spelling
pub mod Tables
pub mod Words
