pub mod Hearing
pub mod Turns
pub mod Serving
pub use Rattle.byte_io.specs.Talk
pub use Rattle.simfile.specs.Script
pub use Rattle.simfile.specs.Lines
