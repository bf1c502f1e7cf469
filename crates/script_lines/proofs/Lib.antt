pub mod Fields
pub mod Grammar
mod Steps
