pub mod Alike
pub mod Verdicts
