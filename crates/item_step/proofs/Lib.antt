pub mod Starts
pub mod Objects
pub mod Declarations
pub mod AnswerLaws
pub mod AskingLaws
pub mod AccessLaws
pub use Rattle.item_state.proofs.Going
