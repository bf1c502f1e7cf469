pub mod Scope
pub mod Expressions
pub mod Forms
pub mod Agreement
pub mod Index
pub mod Targets
pub mod Growth
pub mod Registers
