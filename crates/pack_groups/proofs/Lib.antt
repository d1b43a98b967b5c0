pub mod OrderLemmas
pub mod Descents
pub mod GrossOrder
pub mod Faces
pub mod NewGroups
pub mod DayEnds
