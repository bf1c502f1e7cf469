pub mod Programs
pub mod Runs
pub mod Written
pub mod Launches
pub mod Kept
pub mod Names
pub mod Arguments
pub mod Removed
mod Merged
pub mod OneLaunch
