pub mod Callee
pub mod Marks
pub mod Near
pub mod Rules
pub mod Seen
