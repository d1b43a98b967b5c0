pub mod PackRanges
pub mod FullBatch
