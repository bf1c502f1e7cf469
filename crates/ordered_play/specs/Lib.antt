pub mod Races
pub mod Stepping
pub mod Groups
pub mod Outcomes
pub mod Watched
