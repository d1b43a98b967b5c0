pub mod BlockLaws
pub mod Blocks
pub mod DenseRows
pub mod Layout
pub mod Reading
