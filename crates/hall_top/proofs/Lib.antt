pub mod DoneLemmas
pub mod ServedBooks
