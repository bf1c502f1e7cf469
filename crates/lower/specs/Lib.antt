pub mod Correct
pub mod Accepted
pub mod Lowers
pub mod Lists
pub mod Names
pub mod Statements
pub mod Bounds
pub mod Bodies
