pub mod Answers
pub mod Samples
pub mod Views
pub mod Limits
pub mod Kernels
