mod Lasts
pub mod Counted
pub mod Marking
mod Pairing
