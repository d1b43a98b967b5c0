pub use Rattle.book_verdicts.proofs.ClosingLemmas
pub mod Chains
pub mod SignalLemmas
pub mod ReplyLemmas
pub mod NewestRows
pub mod SameActs
