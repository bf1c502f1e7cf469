pub mod Group
pub mod Parts
pub mod Memory
pub mod Crossings
pub mod Join
pub mod Steps
