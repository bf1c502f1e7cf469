pub mod Arguments
pub mod Counts
pub mod ArrayLaws
mod Assigned
