pub mod JobLists
pub mod MoveLemmas
pub mod RunLemmas
pub mod ServeLemmas
pub mod Serves
