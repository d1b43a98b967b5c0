pub mod History
pub mod Rule
pub mod Seats
pub mod Whole
