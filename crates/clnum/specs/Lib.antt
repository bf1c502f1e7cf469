pub mod Integer
pub mod Conversions
pub mod Operations
pub mod Builtins
