pub mod Headers
pub mod OpenSlots
pub mod ReaderPlaces
