pub mod Quiet
pub mod Touching
pub mod Noted
