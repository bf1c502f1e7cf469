pub mod Texts
pub mod Fronts
pub mod Lines
