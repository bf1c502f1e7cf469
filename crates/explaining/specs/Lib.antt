pub mod Every
pub mod Explaining
pub mod Leading
pub mod Refusing
pub mod Whole
