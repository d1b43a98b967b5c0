pub mod CallEnds
pub mod CommandLemmas
pub mod OpenedBooks
pub mod RequestOrder
pub mod WordsRead
