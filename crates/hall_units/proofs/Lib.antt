pub mod Calendar
pub mod Dates
pub mod DayTexts
pub mod Fronts
pub mod Numerals
pub mod Digits
pub mod ReadBack
