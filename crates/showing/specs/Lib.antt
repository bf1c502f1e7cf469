pub mod Numbers
pub mod Shown
pub use Rattle.byte_io.specs.Pieces
pub use Rattle.simfile.specs.Lines
