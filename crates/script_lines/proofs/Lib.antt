pub mod FirstEnds
pub mod FirstWords
pub mod LineLists
