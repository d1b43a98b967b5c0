pub mod MoveLemmas
pub mod RunLemmas
pub mod WorkLemmas
pub use Rattle.shared_book.proofs.SessionLemmas
