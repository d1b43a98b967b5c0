pub mod PrintedTexts
pub mod ReadingLemmas
pub mod WholeReading
