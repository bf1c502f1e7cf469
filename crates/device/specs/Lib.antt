pub mod Ends
pub mod Kept
pub mod Laws
pub mod Machine
pub mod Prepared
