-- For how many bytes a disk is asked that isn't mounted.
use Rattle.std.proofs.Common.{◌≡◌, inl, inr, ℕ, zero, suc, ◌+◌, ◌-◌, ◌*◌, ◌≤◌, true, is_some, if◌then◌else◌, List, length, drop, Option, Some, None, refl, sym, ◌∙◌, ap, subst, arith}
use Rattle.book_snapshot.specs.declared.types.Kept.{Kept}
use Rattle.book_snapshot.specs.declared.layout.TheConstants.{ROW_BYTES, TAIL}
use Rattle.book_snapshot.specs.Layout.{snapshot_end}
use Rattle.book_snapshot.specs.Blocks.{EndsWithSnapshot}
use Rattle.book_snapshot.specs.BlockLaws.{one_size}
use Rattle.book_journal.specs.declared.layout.TheConstants.{MAX_SLOTS}
use Rattle.book_journal.specs.declared.slots.TheConstants.{PIECE_SLOTS, FEW_SLOTS, OPENING_BYTES}
use Rattle.book_journal.specs.Rows.{open_rows, starts_open, gate_behind}
use Rattle.book_journal.specs.Mounting.{IsSnapshotOf, rows_before, slots_behind, opening_cost, AsksFew}
use Rattle.book_journal.proofs.OpenRows.{open_or_shut, open_rows-open, open_rows-shut}

-- where some slots are open, no fewer are where more are looked at
pub open_among : (n m : ℕ) (bytes : List ℕ) → length (open_rows n bytes) ≡ n → n ≤ m
    → n ≤ length (open_rows m bytes)
open_among zero m bytes counts le = omega arith
open_among (suc n) zero bytes counts le = absurd (omega (arith, le))
open_among (suc n) (suc m) bytes counts le = elim (open_or_shut bytes) [
  | inl is ↦
      let here = ap length (open_rows-open n bytes is) in
      let more = ap length (open_rows-open m bytes is) in
      let rest = open_among n m (drop ROW_BYTES bytes) (omega (arith, counts, here))
      (omega (arith, le)) in
      omega (arith, rest, more)
  | inr shut ↦ absurd (omega (arith, counts, ap length (open_rows-shut (suc n) bytes shut)))
]

-- the slots that were counted are among those that are behind the first
pub counted_among : (first count : ℕ) (bytes : List ℕ) → count ≤ MAX_SLOTS
    → length (open_rows (count - first) (drop (gate_behind first) bytes)) ≡ count - first
    → count - first ≤ slots_behind first bytes
counted_among first count bytes most counts =
    open_among (count - first) (MAX_SLOTS - first) (drop (gate_behind first) bytes) counts
    (omega (arith, most))

-- one snapshot alone fits a disk
pub one_fits : (rows size other_rows other_size : ℕ) (bytes : List ℕ)
    → EndsWithSnapshot rows size bytes → EndsWithSnapshot other_rows other_size bytes
    → (rows ≡ other_rows) × (size ≡ other_size)
one_fits rows size other_rows other_size bytes ends other =
    let place : snapshot_end rows size - ROW_BYTES ≡ snapshot_end other_rows other_size
    - ROW_BYTES = ap (λ (n : ℕ). n - ROW_BYTES) (sym ends.long ∙ other.long) in
    one_size TAIL rows size other_rows other_size ends.size other.size
    (sym ends.tail ∙ ap (λ (n : ℕ). drop n bytes) place ∙ other.tail)

pub one_snapshot : (bytes : List ℕ) (kept other : Option Kept) → IsSnapshotOf bytes kept
    → IsSnapshotOf bytes other → kept ≡ other
one_snapshot bytes None None of is = refl
one_snapshot bytes None (Some other) of is = absurd (of other.rows other.bytes is)
one_snapshot bytes (Some kept) None of is = absurd (is kept.rows kept.bytes of)
one_snapshot bytes (Some kept) (Some other) of is =
    let same = one_fits kept.rows kept.bytes other.rows other.bytes bytes of.ends is.ends in
    λ i. Some (record { rows = same.0 i; bytes = same.1 i })

-- few bytes are no more than opening costs at the least
pub asks_little : (bytes : List ℕ) (before now : ℕ) → now ≤ before + OPENING_BYTES
    → AsksFew bytes before now
asks_little bytes before now le None of = omega (arith, le)
asks_little bytes before now le (Some kept) of = omega (arith, le)

-- what finding the snapshot, counting the slots and looking at the gate behind them asks for
pub asks_scanning : (bytes : List ℕ) (kept : Option Kept) (first slots before now : ℕ)
    → IsSnapshotOf bytes kept → first ≡ rows_before kept
    → slots ≡ (if is_some kept then FEW_SLOTS else PIECE_SLOTS)
    → now ≤ before + 2 * ROW_BYTES + ROW_BYTES * slots_behind first bytes + ROW_BYTES * slots + 1
    → AsksFew bytes before (now + ROW_BYTES)
asks_scanning bytes kept first slots before now of is many le other found =
    subst (λ (o : Option Kept). now + ROW_BYTES ≤ before
    + opening_cost o (rows_before o + slots_behind (rows_before o) bytes))
    (one_snapshot bytes kept other of found)
    (cost kept many
    (subst (λ (n : ℕ). now ≤ before + 2 * ROW_BYTES + ROW_BYTES * slots_behind n bytes
    + ROW_BYTES * slots + 1) is le))
  where
    cost : (o : Option Kept) → slots ≡ (if is_some o then FEW_SLOTS else PIECE_SLOTS)
        → now ≤ before + 2 * ROW_BYTES + ROW_BYTES * slots_behind (rows_before o) bytes + ROW_BYTES
        * slots + 1
        → now + ROW_BYTES ≤ before + opening_cost o (rows_before o + slots_behind (rows_before o) bytes)
    cost None many le = omega (arith, many, le)
    cost (Some kept) many le = omega (arith, many, le)

-- what was asked before counts too
pub asks_behind : (bytes : List ℕ) (before mid now more : ℕ) → mid ≤ before + more
    → AsksFew bytes mid (now + more) → AsksFew bytes before now
asks_behind bytes before mid now more le few kept of = let most = few kept of in omega (arith, le, most)
