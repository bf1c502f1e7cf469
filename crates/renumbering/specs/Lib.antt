pub mod Renamed
pub mod Numbers
pub mod Same
