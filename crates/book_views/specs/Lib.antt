pub mod Tallies
pub mod Terms
pub mod RowViews
