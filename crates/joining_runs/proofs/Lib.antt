pub mod Layers
pub mod Threes
pub mod Runs
