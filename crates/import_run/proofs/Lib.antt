pub mod ImportReading
pub mod CommandsAnswered
pub mod ImportEnds
pub mod WholeImports
