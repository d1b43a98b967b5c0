pub mod Prefixes
pub mod AgreementLemmas
pub mod Pairs
pub mod OwnEntries
pub mod Moves
pub mod GatheredPasses
pub mod RowCounts
