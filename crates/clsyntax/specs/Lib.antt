pub mod Reading
pub mod Correct
pub mod Source
pub mod Views
pub use Rattle.clsyntax_terms.specs.Grammar
