pub mod Answering
pub mod Each
pub mod Faulting
pub mod Performing
pub mod Refusals
pub mod Schedules
pub mod Walking
pub mod Writing
