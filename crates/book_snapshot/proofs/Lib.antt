pub mod BlockPlaces
pub mod EndZeros
pub mod DenseLemmas
