pub mod FieldLemmas
pub mod FieldLaws
mod Counted
