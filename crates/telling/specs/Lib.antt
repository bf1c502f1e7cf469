pub mod Judged
pub mod Told
