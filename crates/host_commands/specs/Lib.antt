pub mod Ranges
pub mod Fills
pub mod Kernels
pub mod Builds
