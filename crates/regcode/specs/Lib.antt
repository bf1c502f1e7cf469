pub mod Listed
pub mod Listing
pub mod Machine
pub mod Rules
pub mod Safety
