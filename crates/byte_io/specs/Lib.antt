pub mod Sink
pub mod Source
pub mod Pieces
pub mod Talk
pub use Rattle.byte_io.specs.Sink
