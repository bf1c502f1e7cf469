pub mod FieldLemmas
pub mod FieldLaws
pub mod Grammar
pub mod Scripts
pub mod LineLaws
mod VersionLines
mod Places
