pub mod Names
pub mod Fenced
pub mod Answers
pub mod Views
