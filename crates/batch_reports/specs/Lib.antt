pub mod Texts
pub use Rattle.book_texts.specs.Appending
