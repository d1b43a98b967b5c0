pub mod Papers
pub mod Lines
pub mod Form
pub mod Ranges
pub mod Drafts
