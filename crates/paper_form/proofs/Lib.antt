pub mod PiecesBetween
pub mod Listed
pub mod ReadingOn
pub mod FieldTexts
pub mod FieldValues
pub mod LinesBack
pub mod RoundTrip
pub mod WholePapers
