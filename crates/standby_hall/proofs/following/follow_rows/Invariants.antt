use Rattle.std.proofs.Common.{◌≡◌, false, Ok}
use Rattle.std.specs.Bool.{⊤}
use Rattle.book_store.specs.Stores.{entries_of, IsSound}
use Rattle.text_streams.specs.Streams.{Stream, input_at}
use Rattle.store_runs.specs.Runs.{Goes}
use Rattle.standby_hall.specs.Rows.{HasReadHead, HasReadRows}
use Rattle.standby_hall.proofs.following.follow_rows.Given as goal

-- the rows up to this one came, and nothing stopped
abbrev pub invariant-loop-before : goal.invariant-loop-before
invariant-loop-before g l = record {
  reads : (start : Stream) → HasReadHead start (input_at g.S.Source l.fn.input) l.head
      → HasReadRows start (input_at g.S.Source l.input) (entries_of l.fn.store)
      (entries_of l.store) l.head l.before;
  unended : g.S.Source.ended l.input ≡ false;
  goes : Goes {T = ⊤} g.D.Disk (Ok tt) l.fn.store l.store;
  sound : IsSound g.D.Disk l.store;
}
