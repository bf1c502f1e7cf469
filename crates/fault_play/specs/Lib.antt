pub mod PlayedOut
pub mod Marks
pub mod Accesses
