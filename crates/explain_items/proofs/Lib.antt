pub mod Counting
mod Numbering
pub mod Renaming
pub mod Spotting
