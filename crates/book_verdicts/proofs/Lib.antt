pub mod MeanLemmas
pub mod BatchFacts
pub mod ContentsLemmas
pub mod ClosingLemmas
pub mod HeldClosings
pub use Rattle.book_state.proofs.Below
