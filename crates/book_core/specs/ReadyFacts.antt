-- What is true of what a book has made ready.
use Rattle.std.specs.Prelude.{◌≡◌, ◌+◌, ◌<◌, length}
use Rattle.book_words.specs.Answers.{IsLawful}
use Rattle.book_rules.specs.View.{StateView}
use Rattle.book_rules.specs.LaneNow.{LaneNow}
use Rattle.book_rules.specs.Lanes.{IsSeen}
use Rattle.book_rules.specs.Prepared.{Drawn, drawn_by}
use Rattle.book_core.specs.View.{ReadyEntry}

-- an entry has its row, is lawful, whatever the book's limit is, and has room; its lane was seen,
-- and what it draws is drawn
pub record IsReadyIn (state : StateView) (ready : ReadyEntry) (seen : LaneNow) (drawn : Drawn)
    : Type 0 where
  pub number : ready.number ≡ length state.entries + 1
  pub lawful : IsLawful state.entries ready.entry
  pub room : 0 < state.spare
  pub seen_is : IsSeen state.entries ready.entry.act seen
  pub drawn_is : drawn ≡ drawn_by state.entries ready.entry.act
