pub mod Counted
pub mod Pages
pub mod Tally
