pub mod Names
pub mod Origins
pub mod Walks
pub mod Marks
pub mod Helpers
pub mod Settings
pub mod Finding
