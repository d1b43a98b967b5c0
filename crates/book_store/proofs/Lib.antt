pub mod SpelledRows
pub mod StoreFacts
pub mod AskDecisions
pub mod DenseContent
pub mod KeptLemmas
pub mod CallerSteps
pub use Rattle.book_core.proofs.SameActs
