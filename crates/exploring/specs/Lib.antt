pub mod Findings
pub mod Lines
pub mod Commands
pub mod Explored
