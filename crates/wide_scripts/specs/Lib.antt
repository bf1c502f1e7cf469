pub mod Notes
pub mod Scripts
