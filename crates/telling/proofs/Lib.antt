pub mod Inside
pub mod Marking
pub mod Placing
pub mod Telling
pub mod Wholes
