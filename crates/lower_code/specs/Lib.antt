pub mod Trees
pub mod Variables
pub mod Code
pub mod Helpers
pub mod Parts
pub mod Emission
pub mod Growth
pub mod Room
