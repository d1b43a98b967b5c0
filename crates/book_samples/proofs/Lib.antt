pub mod SampleLemmas
pub mod ListChanges
pub mod PickCounts
pub mod Known
