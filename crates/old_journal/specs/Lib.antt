pub mod OldJournal
pub mod Reader
