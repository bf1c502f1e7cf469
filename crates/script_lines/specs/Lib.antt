pub mod Plain
pub mod Numbers
pub mod Says
pub mod Reading
