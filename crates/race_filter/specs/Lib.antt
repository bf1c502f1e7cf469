pub mod Words
pub mod Sorts
pub mod Filters
