pub mod Between
pub mod Stored
pub mod Counted
pub mod Reasons
