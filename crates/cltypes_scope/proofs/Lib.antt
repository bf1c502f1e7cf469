mod Declaring
mod Functions
pub mod Least
pub mod Views
pub mod Follows
pub mod Fenced
pub mod Arguments
pub mod Calls
