pub mod DecisionLemmas
mod BookLemmas
mod AskLemmas
pub use Rattle.book_rules.proofs.SameActs
