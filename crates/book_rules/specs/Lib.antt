pub mod Counted
pub mod Replying
pub use Rattle.book_verdicts.specs.Known
pub use Rattle.book_verdicts.specs.LaneNow
pub use Rattle.book_verdicts.specs.Lanes
pub use Rattle.book_verdicts.specs.Prepared
pub use Rattle.book_verdicts.specs.View
