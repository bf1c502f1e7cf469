pub mod Sizes
pub mod Numbers
