pub mod ConversionLemmas
pub mod Residues
pub mod Ranges
pub mod Formulas
pub mod Functions
pub mod Offsets
pub mod Sameness
