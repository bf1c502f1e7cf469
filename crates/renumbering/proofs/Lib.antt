pub mod Renaming
pub mod Numbers
pub mod Coverage
pub mod Verified
pub mod Whole
