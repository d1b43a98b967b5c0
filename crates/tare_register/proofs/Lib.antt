pub mod Alike
pub mod CutLemmas
pub mod Descents
pub mod SidesOfCut
pub mod Least
pub mod PlacedEntries
pub mod Steps
pub mod Within
