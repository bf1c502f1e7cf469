pub mod Hints
pub mod Places
pub mod Refusals
pub mod Titles
