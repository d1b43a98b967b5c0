pub mod CallerGoes
pub mod CarriedEntries
pub mod SameEntries
pub mod StoreSteps
pub use Rattle.book_store.proofs.CallerSteps
pub use Rattle.book_store.proofs.KeptLemmas
