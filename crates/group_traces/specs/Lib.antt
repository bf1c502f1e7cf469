pub mod Cells
pub mod Traces
