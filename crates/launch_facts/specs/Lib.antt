pub mod Facts
pub mod Commands
pub mod Parameters
