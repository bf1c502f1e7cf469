pub mod Registers
pub mod Agreement
pub mod Judged
mod Named
pub mod SafetyLaws
pub mod Steps
