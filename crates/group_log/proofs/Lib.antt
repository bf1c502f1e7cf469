mod Progressing
mod Places
pub mod Covering
pub mod Shortened
pub mod Standing
pub mod Taking
pub mod Telling
