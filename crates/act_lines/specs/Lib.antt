pub mod ActLines
pub mod ActViews
