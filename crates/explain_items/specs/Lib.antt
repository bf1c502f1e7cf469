pub mod Marked
pub mod Named
pub mod Spotted
pub mod Ids
pub mod Deeds
