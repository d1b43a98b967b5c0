use Rattle.std.proofs.Common.{◌≡◌, ◌-◌, ℕ, List, arith, ap, sym, ◌+◌, ◌*◌, ◌≤◌, length, take, drop, take_all, length-drop}
use Rattle.book_snapshot.specs.declared.layout.TheConstants.{ROW_BYTES}
use Rattle.book_journal.specs.declared.layout.TheConstants.{MAX_SLOTS}
use Rattle.book_journal.specs.Rows.{open_rows}
use Rattle.book_file.proofs.Counts.{none_without_header, open_within}
use Rattle.book_file.proofs.live.live_count.Goals as goal

pub returns-then-bytes-lt-ROW_BYTES-clause-count : goal.returns-then-bytes-lt-ROW_BYTES-clause-count
returns-then-bytes-lt-ROW_BYTES-clause-count c =
    omega (arith, none_without_header MAX_SLOTS c.args.bytes.now c.if-bytes-lt-ROW_BYTES.true)

pub returns-clause-count : goal.returns-clause-count
returns-clause-count c =
    let bytes = c.args.bytes.now in
    let tail : take (length bytes - ROW_BYTES) (drop ROW_BYTES bytes) ≡ drop ROW_BYTES bytes =
    take_all (length bytes - ROW_BYTES) (drop ROW_BYTES bytes)
    (omega (arith, length-drop ROW_BYTES bytes)) in
    omega (
      arith,
      c.saturating_sub.ensures,
      c.open_slots.ensures,
      ap (λ (l : List ℕ). length (open_rows MAX_SLOTS l)) tail,
    )

pub returns-clause-within : goal.returns-clause-within
returns-clause-within c long =
    let bytes = c.args.bytes.now in
    let tail : take (length bytes - ROW_BYTES) (drop ROW_BYTES bytes) ≡ drop ROW_BYTES bytes =
    take_all (length bytes - ROW_BYTES) (drop ROW_BYTES bytes)
    (omega (arith, length-drop ROW_BYTES bytes)) in
    omega (
      arith,
      c.saturating_sub.ensures,
      c.open_slots.ensures,
      ap (λ (l : List ℕ). length (open_rows MAX_SLOTS l)) tail,
      open_within MAX_SLOTS bytes long,
    )
