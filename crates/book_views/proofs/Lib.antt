pub mod PileLemmas
pub mod ViewLemmas
mod RowLemmas
