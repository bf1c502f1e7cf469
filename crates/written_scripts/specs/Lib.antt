pub mod Lines
pub mod Telling
pub mod Written
pub mod Texts
pub mod Reading
pub mod Paths
