pub mod OpenDoors
pub mod Silences
