pub mod Unlogged
pub mod Races
pub mod Turns
pub mod Runs
