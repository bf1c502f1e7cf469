pub mod Constants
pub mod Known
