pub mod Searches
pub mod Accesses
pub mod Turns
pub mod Noted
pub mod Going
