-- What one row of a shipment makes of what came before it.
use Rattle.std.proofs.Common.{◌≡◌, ◌⊎◌, inl, inr, ⊎_elim, Bool, true, false, ℕ, ◌+◌, ◌<◌, ◌≤◌, List, [], ◌∷◌, ◌++◌, length, take, Some, None, slice_get, Result, Ok, Err, refl, sym, ap, ◌∙◌, subst, arith, append_assoc, length-append}
use Rattle.std.specs.Prelude.{IfErr}
use Rattle.std.specs.Io.KnownBytes.{Consumes, IsAtEnd}
use Rattle.std.proofs.KnownBytes.{Consumes-trans}
use Rattle.std.proofs.lemmas.List.{length-take-le}
use Rattle.book_words.specs.declared.act.Entry.{Entry}
use Rattle.book_words.specs.Answers.{IsLawful}
use Rattle.book_state.specs.Known.{entry_numbered}
use Rattle.book_snapshot.specs.declared.layout.TheConstants.{ROW_BYTES}
use Rattle.row_format.specs.Spelling.{new_layout, row_bytes}
use Rattle.row_format.specs.Rows.{CanBeSpelled, Spells}
use Rattle.row_format.proofs.OneEntry.{one_entry}
use Rattle.book_store.proofs.SpelledRows.{all_more}
use Rattle.text_streams.specs.Streams.{Stream, IsCalm, HasFailed}
use Rattle.store_runs.specs.declared.stop.Offer.TheVariants as offering
use Rattle.store_runs.specs.declared.stop.Stop.{Stop}
use Rattle.store_runs.specs.declared.stop.Stop.TheVariants as run
use Rattle.store_runs.specs.Carrying.{Carries, Refuses, FailsToAdd, StopsAtEntry, IsLonger, MayCome}
use Rattle.store_runs.proofs.CarriedEntries.{longer_same, longer_more, not_another, not_unlawful, get_none, numbered_next}
use Rattle.standby_hall.specs.declared.types.ShipHead.{ShipHead}
use Rattle.standby_hall.specs.declared.types.FollowStop.{FollowStop}
use Rattle.standby_hall.specs.declared.types.FollowStop.TheVariants.{ReadFault, Head, Gap, Row, Extra, DiskFault, NoMemory}
use Rattle.standby_hall.specs.Shipments.{head_bytes, IsHead, rows_from, shipped}
use Rattle.standby_hall.specs.Following.{Arrival, HasFollowed, FailsInRows, StopsAtRow, ComesToNew, Follows, CountsRead, ExplainsFollow, shipment_stop, step_behind}
use Rattle.standby_hall.specs.Rows.{entry_stop, IsNewSlot, StopsSlot, FollowsRow, FailsWithin, StopsAtBad, StopsAtNew, StopsInRow, HasReadRows, IsBehindHead, IsBeforeEnd}
use Rattle.standby_hall.proofs.RowBytes.{rows_more}

-- ---- an entry that wasn't carried

-- a stop of carrying is told again
pub stop_again : (rows : List Entry) (number : ℕ) (entry : Entry) (stop : Stop)
    → StopsAtEntry rows number entry stop → shipment_stop (entry_stop number entry stop) ≡ stop
stop_again rows number entry (run.DiskFault offer) (inl (is, refuses)) = absurd cc
stop_again rows number entry (run.DiskFault offer) (inr (none, lawful, fails)) =
    ap (λ o. run.DiskFault o) (sym fails)
stop_again rows number entry run.NoMemory stops = refl
stop_again rows number entry (run.BadLine row) (inl (is, refuses)) = sym is
stop_again rows number entry (run.BadLine row) (inr (none, lawful, fails)) = absurd fails
stop_again rows number entry run.Finished (inl (is, refuses)) = absurd cc
stop_again rows number entry run.Finished (inr (none, lawful, fails)) = absurd fails
stop_again rows number entry run.ReadFault (inl (is, refuses)) = absurd cc
stop_again rows number entry run.ReadFault (inr (none, lawful, fails)) = absurd fails
stop_again rows number entry run.WriteFault (inl (is, refuses)) = absurd cc
stop_again rows number entry run.WriteFault (inr (none, lawful, fails)) = absurd fails
stop_again rows number entry run.Spent (inl (is, refuses)) = absurd cc
stop_again rows number entry run.Spent (inr (none, lawful, fails)) = absurd fails

module _ (rows : List Entry) (number : ℕ) (slot : List ℕ) (entry : Entry)
    (spells : Spells new_layout slot number entry) where
  -- a row spells no other entry
  refuses_all : Refuses rows number entry → (other : Entry) → Spells new_layout slot number other
      → Refuses rows number other
  refuses_all refuses other spelled =
      subst (Refuses rows number) (one_entry slot number entry other spells spelled) refuses

  pub slot_stops : (stop : Stop) → StopsAtEntry rows number entry stop
      → StopsSlot rows number slot (entry_stop number entry stop)
  slot_stops (run.DiskFault offer) (inl (is, refuses)) = absurd cc
  slot_stops (run.DiskFault offer) (inr (none, lawful, fails)) =
      record { spells = spells; lacks = none; lawful = lawful }
  slot_stops run.NoMemory (inl (is, refuses)) = absurd cc
  slot_stops run.NoMemory (inr (none, lawful, fails)) =
      (entry, record { spells = spells; lacks = none; lawful = lawful })
  slot_stops (run.BadLine row) (inl (is, refuses)) = (refl, refuses_all refuses)
  slot_stops (run.BadLine row) (inr (none, lawful, fails)) = absurd fails
  slot_stops run.Finished (inl (is, refuses)) = absurd cc
  slot_stops run.Finished (inr (none, lawful, fails)) = absurd fails
  slot_stops run.ReadFault (inl (is, refuses)) = absurd cc
  slot_stops run.ReadFault (inr (none, lawful, fails)) = absurd fails
  slot_stops run.WriteFault (inl (is, refuses)) = absurd cc
  slot_stops run.WriteFault (inr (none, lawful, fails)) = absurd fails
  slot_stops run.Spent (inl (is, refuses)) = absurd cc
  slot_stops run.Spent (inr (none, lawful, fails)) = absurd fails

-- what a slot stops at, with the bytes that came
pub slot_in_row : (before now : Stream) (rows : List Entry) (number : ℕ) (slot : List ℕ)
    (stop : FollowStop) → Consumes before.bytes now.bytes slot → IsCalm before now
    → length slot ≡ ROW_BYTES → StopsSlot rows number slot stop
    → StopsInRow before now rows number stop
slot_in_row before now rows number slot (Row row) read calm long (is, refuses) =
    (is, record { bytes = slot; read = read; calm = calm; bad = inr (long, refuses) })
slot_in_row before now rows number slot (DiskFault entry) read calm long new =
    record { bytes = slot; read = read; calm = calm; new = new }
slot_in_row before now rows number slot NoMemory read calm long (entry, new) =
    (entry, record { bytes = slot; read = read; calm = calm; new = new })
slot_in_row before now rows number slot ReadFault read calm long never = absurd never
slot_in_row before now rows number slot Head read calm long never = absurd never
slot_in_row before now rows number slot (Gap row) read calm long never = absurd never
slot_in_row before now rows number slot (Extra all) read calm long never = absurd never

pub slot_result : {T : Type 0} (before now : Stream) (rows : List Entry) (number : ℕ)
    (slot : List ℕ) (result : Result T FollowStop) → Consumes before.bytes now.bytes slot
    → IsCalm before now → length slot ≡ ROW_BYTES → IfErr result (StopsSlot rows number slot)
    → IfErr result (StopsInRow before now rows number)
slot_result before now rows number slot (Ok done) read calm long stops = tt
slot_result before now rows number slot (Err stop) read calm long stops =
    slot_in_row before now rows number slot stop read calm long stops

-- ---- behind the rows before

-- the bytes of rows, and a part behind them
behind_rows : (start before now : Stream) (head : ShipHead) (entries : List Entry) (part : List ℕ)
    → Consumes start.bytes before.bytes (shipped head entries)
    → Consumes before.bytes now.bytes part
    → Consumes start.bytes now.bytes (shipped head entries ++ part)
behind_rows start before now head entries part first next =
    Consumes-trans start.bytes before.bytes now.bytes (shipped head entries) part first next

-- the bytes of one row more
ships_more : (head : ShipHead) (entries : List Entry) (entry : Entry) (number : ℕ)
    → number ≡ head.passed + length entries + 1
    → shipped head entries ++ row_bytes new_layout number entry
    ≡ shipped head (entries ++ entry ∷ [])
ships_more head entries entry number next =
    let rows = rows_from (head.passed + 1) entries in
    let same : number ≡ head.passed + 1 + length entries = omega (arith, next) in
    append_assoc (head_bytes head) rows (row_bytes new_layout number entry)
    ∙ ap (λ n. head_bytes head ++ (rows ++ row_bytes new_layout n entry)) same
    ∙ ap (λ (l : List ℕ). head_bytes head ++ l) (sym (rows_more (head.passed + 1) entries entry))

module _ (start now next : Stream) (held rows : List Entry) (head : ShipHead) (before : ℕ)
    (read : HasReadRows start now held rows head before) (inside : before < head.all) where
  abbrev told : List Entry
  told = take head.passed held ++ read.entries

  told_many : length told ≡ before
  told_many = length-append (take head.passed held) read.entries
      ∙ ap (λ n. n + length read.entries) (length-take-le head.passed held read.followed.enough)
      ∙ read.counted

  numbered : entry_numbered rows (before + 1) ≡ slice_get rows (length told)
  numbered = numbered_next rows (length told) (before + 1) (ap (λ n. n + 1) (sym told_many))

  carried_on : (new : List Entry) (entry : Entry) → Carries rows new (before + 1) entry
      → IsLonger held (told ++ entry ∷ []) new
  carried_on new entry (inl (there, same)) =
      subst (IsLonger held (told ++ entry ∷ [])) (sym same)
      (longer_same held told rows entry read.followed.longer (sym numbered ∙ there))
  carried_on new entry (inr (none, lawful, added)) =
      subst (IsLonger held (told ++ entry ∷ [])) (sym added)
      (longer_more held told rows entry read.followed.longer
      (get_none rows (length told) (sym numbered ∙ none)))

  -- a row that was carried
  pub row_more : (new : List Entry) → FollowsRow now next rows new (before + 1)
      → HasReadRows start next held new head (before + 1)
  row_more new row =
      let entries = read.entries in
      let entry = row.entry in
      let place : before + 1 ≡ head.passed + length entries + 1 = ap (λ n. n + 1) (sym read.counted) in
      record {
        entries = entries ++ entry ∷ [];
        read = subst (Consumes start.bytes next.bytes)
            (ap (λ (l : List ℕ). shipped head entries ++ l) row.spells.row
            ∙ ships_more head entries entry (before + 1) place)
            (behind_rows start now next head entries row.bytes read.read row.read);
        calm = row.calm ∙ read.calm;
        followed = record {
          good = read.followed.good;
          enough = read.followed.enough;
          inside = omega (arith, inside, read.counted, length-append entries (entry ∷ []));
          can = all_more entries entry read.followed.can row.spells.can;
          longer = subst (λ (es : List Entry). IsLonger held es new)
              (append_assoc (take head.passed held) entries (entry ∷ []))
              (carried_on new entry row.carried);
        };
        counted = omega (arith, read.counted, length-append entries (entry ∷ []));
      }

  -- ---- a row that stops

  -- what a row refuses may not come next
  never_next : (entry : Entry) → Refuses rows (before + 1) entry
      → ¬ MayCome (length told) held rows entry
  never_next entry (inl (other, there, differs)) =
      not_another held told rows entry other read.followed.longer (sym numbered ∙ there) differs
  never_next entry (inr (none, unlawful)) =
      not_unlawful held told rows entry read.followed.longer (sym numbered ∙ none) unlawful

  place_of : head.passed + length read.entries ≡ length told
  place_of = read.counted ∙ sym told_many

  at_bad : StopsAtBad now next rows (before + 1)
      → ExplainsFollow held start next rows (Err (Row (before + 1)))
  at_bad stops = ⊎_elim
      (λ cut. record {
        arrival = record { bytes = shipped head read.entries ++ stops.bytes; ended = true };
        read = behind_rows start now next head read.entries stops.bytes read.read stops.read;
        at_end = λ _. cut.1;
        cause = stops.calm ∙ read.calm;
        follows = record {
          head = head;
          entries = read.entries;
          part = stops.bytes;
          followed = read.followed;
          next = ap (λ n. n + 1) (sym read.counted);
          told = omega (arith, inside);
          parts = refl;
          bad = inl (cut.0, refl);
        };
      })
      (λ other. record {
        arrival = record { bytes = shipped head read.entries ++ stops.bytes; ended = false };
        read = behind_rows start now next head read.entries stops.bytes read.read stops.read;
        at_end = λ is. absurd cc;
        cause = stops.calm ∙ read.calm;
        follows = record {
          head = head;
          entries = read.entries;
          part = stops.bytes;
          followed = read.followed;
          next = ap (λ n. n + 1) (sym read.counted);
          told = omega (arith, inside);
          parts = refl;
          bad = inr (
            other.0,
            λ entry spells may. never_next entry
                (other.1 entry (subst (λ n. Spells new_layout stops.bytes (n + 1) entry) read.counted spells))
                (subst (λ n. MayCome n held rows entry) place_of may),
          );
        };
      })
      stops.bad

  comes_to : (entry : Entry) (new : StopsAtNew now next rows (before + 1) entry)
      → ComesToNew held rows (shipped head read.entries ++ new.bytes) entry
  comes_to entry new = record {
    head = head;
    entries = read.entries;
    followed = read.followed;
    told = omega (arith, inside, read.counted);
    can = new.new.spells.can;
    parts = ap (λ (l : List ℕ). shipped head read.entries ++ l) new.new.spells.row
        ∙ ships_more head read.entries entry (before + 1) (ap (λ n. n + 1) (sym read.counted));
    lacks = omega (
      arith,
      place_of,
      get_none rows (length told) (sym numbered ∙ new.new.lacks),
    );
    lawful = new.new.lawful;
  }

  -- the entry that was to be added
  at_new : (result : FollowStop) (entry : Entry)
      → (new : StopsAtNew now next rows (before + 1) entry)
      → CountsRead start next (Err result)
      → Follows held rows
      (record { bytes = shipped head read.entries ++ new.bytes; ended = false }) (Err result)
      → ExplainsFollow held start next rows (Err result)
  at_new result entry new cause follows = record {
    arrival = record { bytes = shipped head read.entries ++ new.bytes; ended = false };
    read = behind_rows start now next head read.entries new.bytes read.read new.read;
    at_end = λ never. absurd cc;
    cause = cause;
    follows = follows;
  }

  at_fault : FailsWithin now next ROW_BYTES → ExplainsFollow held start next rows (Err ReadFault)
  at_fault fails = record {
    arrival = record { bytes = shipped head read.entries ++ fails.taken; ended = false };
    read = behind_rows start now next head read.entries fails.taken read.read fails.read;
    at_end = λ never. absurd cc;
    cause = subst (λ n. HasFailed (record { bytes = start.bytes; faults = n }) next) read.calm fails.failed;
    follows = inr (record {
      head = head;
      entries = read.entries;
      part = fails.taken;
      followed = read.followed;
      cut = fails.less;
      parts = refl;
    });
  }

  pub row_stops : (stop : FollowStop) → StopsInRow now next rows (before + 1) stop
      → ExplainsFollow held start next rows (Err stop)
  row_stops ReadFault fails = at_fault fails
  row_stops (Row row) (is, stops) =
      subst (λ n. ExplainsFollow held start next rows (Err (Row n))) (sym is) (at_bad stops)
  row_stops (DiskFault entry) new =
      at_new (DiskFault entry) entry new (new.calm ∙ read.calm) (comes_to entry new)
  row_stops NoMemory (entry, new) =
      at_new NoMemory entry new (new.calm ∙ read.calm) (entry, comes_to entry new)
  row_stops Head never = absurd never
  row_stops (Gap row) never = absurd never
  row_stops (Extra all) never = absurd never

-- where following stops in a row, that is behind the head, and before the end of the last row
pub row_behind : (before now : Stream) (rows : List Entry) (number : ℕ) (stop : FollowStop)
    → StopsInRow before now rows number stop → IsBehindHead stop × IsBeforeEnd stop
row_behind before now rows number ReadFault stops = (tt, tt)
row_behind before now rows number (Row row) stops = (tt, tt)
row_behind before now rows number (DiskFault entry) stops = (tt, tt)
row_behind before now rows number NoMemory stops = (tt, tt)
row_behind before now rows number Head never = absurd never
row_behind before now rows number (Gap row) never = absurd never
row_behind before now rows number (Extra all) never = absurd never
