pub mod Chosen
pub mod Bytes
pub mod Choosing
pub mod Steps
pub mod StepLists
