use Rattle.std.proofs.Common.{◌≡◌, ◌≤◌, false, Ok}
use Rattle.std.specs.Bool.{⊤}
use Rattle.book_store.specs.Stores.{entries_of, IsSound}
use Rattle.text_streams.specs.Streams.{input_at}
use Rattle.store_runs.specs.Runs.{Goes}
use Rattle.standby_hall.specs.Shipments.{IsHead}
use Rattle.standby_hall.specs.Several.{StandsAtHead}
use Rattle.standby_hall.proofs.following.follow_shipments.Given as goal

-- those before came whole, and nothing stopped
abbrev pub invariant-loop-earlier : goal.invariant-loop-earlier
invariant-loop-earlier g l = record {
  stands : StandsAtHead (input_at g.S.Source l.fn.input) (input_at g.S.Source l.input)
      (entries_of l.fn.store) (entries_of l.store) l._earlier l.head;
  good : IsHead l.head;
  unended : g.S.Source.ended l.input ≡ false;
  goes : Goes {T = ⊤} g.D.Disk (Ok tt) l.fn.store l.store;
  sound : IsSound g.D.Disk l.store;
}
