pub mod Leading
pub mod RegisterValues
pub mod Kept
pub mod Faultless
pub mod Computing
pub mod Words
