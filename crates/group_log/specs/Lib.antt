pub mod Progressions
pub mod Covers
pub mod Lasting
pub mod Logged
pub mod Side
pub mod SummarizesByte
pub mod Tells
