pub mod AskErrors
pub mod View
pub mod Steps
pub mod ReadyFacts
pub mod BookInvariant
