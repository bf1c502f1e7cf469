mod Readings
pub mod Replays
mod Servings
pub mod Sessions
