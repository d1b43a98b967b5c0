use Rattle.std.proofs.Common.{◌≡◌, ℕ, ◌+◌, ◌*◌, List, ◌++◌, length}
use Rattle.std.specs.List.{AllByRecursion}
use Rattle.hall_limits.specs.declared.TheConstants.{NAME_BYTES}
use Rattle.book_snapshot.specs.declared.layout.TheConstants.{ROW_BYTES}
use Rattle.row_format.specs.Allowed.{IsAllowed}
use Rattle.text_streams.specs.Streams.{Stream, output_at}
use Rattle.standby_hall.specs.Shipments.{rows_from}
use Rattle.standby_hall.specs.Pages.{HasPut, put_bytes}
use Rattle.standby_hall.proofs.shipping.put_rows.Given as goal

-- what was put, and then the rows that are left, are the whole
abbrev pub invariant-loop-entry : goal.invariant-loop-entry
invariant-loop-entry g l = record {
  goes : (start : Stream) (text : List ℕ)
      → HasPut start (output_at g.K.Sink l.fn.sink) l.fn.page text
      → (put : List ℕ) × HasPut start (output_at g.K.Sink l.sink) l.page put
      × (put ++ rows_from l.next l.rest ≡ text ++ rows_from l.number l.entries);
  allowed : AllByRecursion (IsAllowed NAME_BYTES) l.rest;
  few : l.next + length l.rest ≡ l.number + length l.entries;
  room : put_bytes l.page + ROW_BYTES * length l.rest
      ≡ put_bytes l.fn.page + ROW_BYTES * length l.entries;
}

abbrev pub decreases-loop-entry : goal.decreases-loop-entry
decreases-loop-entry g l = length l.rest
