pub mod Audits
pub mod Beside
pub mod Fronts
pub mod Slots
pub mod Walking
