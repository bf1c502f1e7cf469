pub mod Cells
pub mod Halves
pub mod Meetings
pub mod Absorbing
pub mod Marking
pub mod Missing
pub mod Listing
