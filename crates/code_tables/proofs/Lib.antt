pub mod Below
pub mod Counted
