pub mod AskLemmas
pub mod CloseLemmas
pub mod MetPasses
pub mod Crossing
pub mod CallerCrashes
pub mod SessionLemmas
