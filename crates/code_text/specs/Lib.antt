pub mod Parts
pub mod Text
