pub mod Lines
pub mod Sources
pub mod Commands
