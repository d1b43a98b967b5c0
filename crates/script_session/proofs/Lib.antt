pub mod WorkedLanes
pub mod AnsweredLines
pub mod WrittenTexts
pub mod WorkedLines
pub mod SummaryEnds
