pub mod Arrays
pub mod Position
pub mod Arguments
pub mod ItemContext
pub mod Giving
pub mod Reading
