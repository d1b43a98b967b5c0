-- How many slots are open, and what stands behind them.
use Rattle.std.proofs.Common.{◌≡◌, ◌≢◌, ◌⊎◌, inl, inr, ⊎_elim, ℕ, zero, suc, ◌+◌, ◌-◌, ◌*◌, ◌<◌, ◌≤◌, true, false, List, [], ◌∷◌, length, get_or, take, drop, sym, ◌∙◌, ap, subst, arith, length-drop, Option, Some, None}
use Rattle.std.proofs.lemmas.List.{get_or-drop, drop-drop}
use Rattle.std.proofs.lemmas.Bool.{cases_lt}
use Rattle.std.proofs.lemmas.Bool.Decides.{nat_tests}
use Rattle.hall_limits.specs.declared.TheConstants.{MAX_ROWS}
use Rattle.book_snapshot.specs.declared.types.Kept.{Kept}
use Rattle.book_snapshot.specs.declared.layout.TheConstants.{ROW_BYTES, OPEN}
use Rattle.book_snapshot.specs.DenseRows.{AreRows}
use Rattle.book_snapshot.specs.Layout.{snapshot_end}
use Rattle.book_snapshot.specs.Blocks.{EndsWithSnapshot}
use Rattle.book_journal.specs.declared.layout.TheConstants.{NEW_BYTES, MAX_SLOTS}
use Rattle.book_journal.specs.Rows.{HasHeader, Recovers, IsJournalOf, starts_open, open_rows, rows_of, gate_behind}
use Rattle.book_journal.specs.Mounting.{IsSnapshotOf, rows_before, slots_behind, stands_closed}
use Rattle.book_journal.proofs.OpenRows.{open_or_shut, open_rows-open, open_rows-shut, open_rows-none, open_gate, shut_by_cut, rows_fit, rows_stop}
use Rattle.book_journal.proofs.Gates.{behind, open_behind}

true_false : true ≡ false → ⊥
true_false is = cc

-- the open slots are those that are counted
pub rows_counted : (most : ℕ) (bytes : List ℕ)
    → open_rows (length (open_rows most bytes)) bytes ≡ open_rows most bytes
rows_counted zero bytes = ap (λ (n : ℕ). open_rows n bytes) (ap length (open_rows-none bytes))
rows_counted (suc most) bytes = elim (open_or_shut bytes) [
  | inl is ↦
      let more = open_rows-open most bytes is in
      ap (λ (rs : List (List ℕ)). open_rows (length rs) bytes) more
      ∙ open_rows-open (length (open_rows most (drop ROW_BYTES bytes))) bytes is
      ∙ ap (λ (rs : List (List ℕ)). take ROW_BYTES bytes ∷ rs)
      (rows_counted most (drop ROW_BYTES bytes)) ∙ sym more
  | inr shut ↦
      let none = open_rows-shut (suc most) bytes shut in
      ap (λ (rs : List (List ℕ)). open_rows (length rs) bytes) none ∙ open_rows-none bytes ∙ sym none
]

-- and behind them is none, unless too few were looked at
pub rows_ended : (most : ℕ) (bytes : List ℕ) → length (open_rows most bytes) < most
    → starts_open (drop (ROW_BYTES * length (open_rows most bytes)) bytes) ≡ false
rows_ended zero bytes few = absurd (omega (arith, few))
rows_ended (suc most) bytes few = elim (open_or_shut bytes) [
  | inl is ↦
      let count = ap length (open_rows-open most bytes is) in
      let rest = rows_ended most (drop ROW_BYTES bytes) (omega (arith, few, count)) in
      let place : ROW_BYTES + ROW_BYTES * length (open_rows most (drop ROW_BYTES bytes)) ≡ ROW_BYTES
      * length (open_rows (suc most) bytes) = omega (arith, count) in
      subst (λ (l : List ℕ). starts_open l ≡ false)
      (drop-drop (ROW_BYTES * length (open_rows most (drop ROW_BYTES bytes))) ROW_BYTES bytes
      ∙ ap (λ (n : ℕ). drop n bytes) place) rest
  | inr shut ↦
      let none : ROW_BYTES * length (open_rows (suc most) bytes) ≡ 0 =
      omega (arith, ap length (open_rows-shut (suc most) bytes shut)) in
      subst (λ (n : ℕ). starts_open (drop n bytes) ≡ false) (sym none) shut
]

first_open : (count : ℕ) (bytes : List ℕ) → length (open_rows (suc count) bytes) ≡ suc count
    → starts_open bytes ≡ true
first_open count bytes counts =
    ⊎_elim (λ is. is) (λ shut. absurd
    (omega (arith, counts, ap length (open_rows-shut (suc count) bytes shut)))) (open_or_shut bytes)

-- the last of some open slots, and each before it, has its gate open
pub slot_open : (count k : ℕ) (bytes : List ℕ) → length (open_rows count bytes) ≡ count → k < count
    → get_or bytes (ROW_BYTES * k) 0 ≡ OPEN
slot_open zero k bytes counts lt = absurd (omega (arith, lt))
slot_open (suc count) zero bytes counts lt =
    let none : ROW_BYTES * 0 ≡ 0 = omega arith in
    ap (λ (n : ℕ). get_or bytes n 0) none ∙ open_gate bytes (first_open count bytes counts)
slot_open (suc count) (suc k) bytes counts lt =
    let is = first_open count bytes counts in
    let place : ROW_BYTES + ROW_BYTES * k ≡ ROW_BYTES * suc k = omega arith in
    let rest = slot_open count k (drop ROW_BYTES bytes)
    (omega (arith, counts, ap length (open_rows-open count bytes is))) (omega (arith, lt)) in
    ap (λ (n : ℕ). get_or bytes n 0) (sym place)
    ∙ sym (get_or-drop ROW_BYTES bytes (ROW_BYTES * k) 0) ∙ rest

-- so many open slots behind the first ones
pub rows_tail : (first more : ℕ) (bytes : List ℕ)
    → length (open_rows (first + more) bytes) ≡ first + more
    → length (open_rows more (drop (ROW_BYTES * first) bytes)) ≡ more
rows_tail zero more bytes counts =
    let none : zero + more ≡ more = omega arith in
    subst (λ (n : ℕ). length (open_rows n bytes) ≡ n) none counts
rows_tail (suc first) more bytes counts =
    let sum : suc first + more ≡ suc (first + more) = omega arith in
    let all = subst (λ (n : ℕ). length (open_rows n bytes) ≡ n) sum counts in
    let is = first_open (first + more) bytes all in
    let place : ROW_BYTES + ROW_BYTES * first ≡ ROW_BYTES * suc first = omega arith in
    subst (λ (l : List ℕ). length (open_rows more l) ≡ more)
    (drop-drop (ROW_BYTES * first) ROW_BYTES bytes ∙ ap (λ (n : ℕ). drop n bytes) place)
    (rows_tail first more (drop ROW_BYTES bytes)
    (omega (arith, all, ap length (open_rows-open (first + more) bytes is))))

-- an image that is cut behind its rows ends with no snapshot
pub no_snapshot_cut : (count rows size : ℕ) (c : List ℕ) → length (rows_of count c) ≡ count
    → gate_behind count ≤ length c → length c < gate_behind count + ROW_BYTES
    → EndsWithSnapshot rows size c → ⊥
no_snapshot_cut count rows size c counts long cut ends =
    let whole : length c ≡ gate_behind count = omega (arith, ends.long, long, cut) in
    let some : 1 ≤ count = omega (arith, whole, ends.long, ends.size.some_rows) in
    let last : ROW_BYTES + ROW_BYTES * (count - 1) ≡ snapshot_end rows size - ROW_BYTES =
    omega (arith, whole, ends.long, some) in
    let opened : get_or c (ROW_BYTES + ROW_BYTES * (count - 1)) 0 ≡ OPEN =
    sym (get_or-drop ROW_BYTES c (ROW_BYTES * (count - 1)) 0)
    ∙ slot_open count (count - 1) (drop ROW_BYTES c) counts (omega (arith, some)) in
    let place : snapshot_end rows size - ROW_BYTES + 0 ≡ ROW_BYTES + ROW_BYTES * (count - 1) =
    omega (arith, last) in
    let shut : get_or c (ROW_BYTES + ROW_BYTES * (count - 1)) 0 ≡ 0 =
    ap (λ (n : ℕ). get_or c n 0) (sym place)
    ∙ sym (get_or-drop (snapshot_end rows size - ROW_BYTES) c 0 0)
    ∙ ap (λ (l : List ℕ). get_or l 0 0) ends.tail in
    absurd (omega (arith, opened, shut))

pub no_snapshot_short : (rows size : ℕ) (c : List ℕ) → length c ≤ NEW_BYTES
    → EndsWithSnapshot rows size c → ⊥
no_snapshot_short rows size c short ends = absurd (omega (arith, short, ends.long))

-- a disk with the header that recovers rows is a journal of them
pub journal_of : (b : List ℕ) (rows : List (List ℕ)) → HasHeader b → Recovers b rows → IsJournalOf rows b
journal_of b rows header (inl is) = is
journal_of b rows header (inr short) = record {
  header = header;
  slots = short.1
      ∙ sym (open_rows-shut (length b) (drop ROW_BYTES b)
      (shut_by_cut (drop ROW_BYTES b) (omega (arith, length-drop ROW_BYTES b, short.0))));
  numbered = subst (λ (rs : List (List ℕ)). AreRows ROW_BYTES 1 rs) (sym short.1) tt;
  snapshot = λ set count size ends. absurd (no_snapshot_short count size b short.0 ends);
}

-- a disk too short for a row recovers none
pub short_none : (b : List ℕ) (rows : List (List ℕ)) → length b ≤ NEW_BYTES → Recovers b rows → rows ≡ []
short_none b rows short (inl is) = is.slots
    ∙ open_rows-shut (length b) (drop ROW_BYTES b)
    (shut_by_cut (drop ROW_BYTES b) (omega (arith, length-drop ROW_BYTES b, short)))
short_none b rows short (inr none) = none.1

-- the rows of a journal, as slots that are counted
module _ (b : List ℕ) (rows : List (List ℕ)) (is : IsJournalOf rows b) where
  pub journal_rows : rows_of (length rows) b ≡ rows
  journal_rows = ap (λ (rs : List (List ℕ)). open_rows (length rs) (drop ROW_BYTES b)) is.slots
      ∙ rows_counted (length b) (drop ROW_BYTES b) ∙ sym is.slots

  pub journal_fits : gate_behind (length rows) ≤ length b
  journal_fits =
      let long = is.header.long in
      omega (
        arith,
        rows_fit (length rows) (drop ROW_BYTES b) (ap length journal_rows),
        length-drop ROW_BYTES b,
        long,
      )

  pub journal_ends : starts_open (drop (gate_behind (length rows)) b) ≡ false
  journal_ends =
      let long = is.header.long in
      let size = ap length (sym is.slots) in
      let few : length (open_rows (length b) (drop ROW_BYTES b)) < length b =
      omega (
        arith,
        size,
        rows_fit (length rows) (drop ROW_BYTES b) (ap length journal_rows),
        length-drop ROW_BYTES b,
        long,
      ) in
      subst (λ (l : List ℕ). starts_open l ≡ false) (behind (length rows) b)
      (subst (λ (n : ℕ). starts_open (drop (ROW_BYTES * n) (drop ROW_BYTES b)) ≡ false) size
      (rows_ended (length b) (drop ROW_BYTES b) few))

  -- they are counted from any of them on
  pub journal_slots : (first : ℕ) → first ≤ length rows → length rows ≤ MAX_ROWS
      → first + slots_behind first b ≡ length rows
  journal_slots first le few =
      let sum : first + (length rows - first) ≡ length rows = omega (arith, le) in
      let tail = rows_tail first (length rows - first) (drop ROW_BYTES b)
      (subst (λ (n : ℕ). length (rows_of n b) ≡ n) (sym sum) (ap length journal_rows)) in
      let there : length (open_rows (length rows - first) (drop (gate_behind first) b))
      ≡ length rows - first = subst (λ (l : List ℕ). length (open_rows (length rows - first) l)
      ≡ length rows - first) (behind first b) tail in
      let place : gate_behind first + ROW_BYTES * (length rows - first)
      ≡ gate_behind (length rows) = omega (arith, le) in
      let ended : starts_open (drop (ROW_BYTES * (length rows - first))
      (drop (gate_behind first) b)) ≡ false =
      subst (λ (l : List ℕ). starts_open l ≡ false)
      (sym (drop-drop (ROW_BYTES * (length rows - first)) (gate_behind first) b
      ∙ ap (λ (n : ℕ). drop n b) place)) journal_ends in
      let stops = rows_stop (length rows - first) (MAX_SLOTS - first)
      (drop (gate_behind first) b) there ended (omega (arith, few)) in
      omega (arith, ap length stops, there, le)

-- the rows that a snapshot holds are some of the journal's
pub snapshot_within : (b : List ℕ) (rows : List (List ℕ)) (kept : Option Kept) → IsJournalOf rows b
    → IsSnapshotOf b kept → rows_before kept ≤ length rows
snapshot_within b rows None is of = omega arith
snapshot_within b rows (Some kept) is of =
    (is.snapshot (λ none. omega (arith, of.marked, none)) kept.rows kept.bytes of.ends).0

-- counting finds as many slots as there are
pub slots_counted : (first count : ℕ) (b : List ℕ) → first ≤ count → count ≤ MAX_SLOTS
    → length (open_rows (count - first) (drop (gate_behind first) b)) ≡ count - first
    → (count ≡ MAX_SLOTS) ⊎ (starts_open (drop (gate_behind count) b) ≡ false)
    → count ≡ first + slots_behind first b
slots_counted first count b from most all (inl full) =
    let same : count - first ≡ MAX_SLOTS - first = ap (λ (n : ℕ). n - first) full in
    omega (arith, from, all, ap (λ (n : ℕ). length (open_rows n (drop (gate_behind first) b))) same)
slots_counted first count b from most all (inr shut) =
    let place : gate_behind first + ROW_BYTES * (count - first) ≡ gate_behind count =
    omega (arith, from) in
    let ended : starts_open (drop (ROW_BYTES * (count - first)) (drop (gate_behind first) b))
    ≡ false = subst (λ (l : List ℕ). starts_open l ≡ false)
    (sym (drop-drop (ROW_BYTES * (count - first)) (gate_behind first) b
    ∙ ap (λ (n : ℕ). drop n b) place)) shut in
    let stops = rows_stop (count - first) (MAX_SLOTS - first) (drop (gate_behind first) b) all ended
    (omega (arith, most)) in
    omega (arith, ap length stops, all, from)

-- where a gate isn't closed behind the last slot, the slot is cut
pub cut_unless : (count : ℕ) (b : List ℕ) → starts_open (drop (gate_behind count) b) ≡ false
    → stands_closed (gate_behind count) b ≡ false → length b < gate_behind count + ROW_BYTES
cut_unless count b shut other = elim (cases_lt (length b) (gate_behind count + ROW_BYTES)) [
  | inl cut ↦ cut
  | inr whole ↦
      let gate : get_or b (gate_behind count) 0 ≡ OPEN = grind (arith, nat_tests, other, whole) in
      let is : starts_open (drop (gate_behind count) b) ≡ true =
      open_behind count b (omega (arith, whole)) gate in
      absurd (true_false (sym is ∙ shut))
]

-- what a closed gate is
pub closed_is : (gate : ℕ) (b : List ℕ) → stands_closed gate b ≡ true → (gate < length b)
    × (get_or b gate 0 ≢ OPEN)
closed_is gate b is = (
  grind (arith, nat_tests, is),
  λ opened. absurd (true_false (sym is ∙ grind (arith, nat_tests, opened))),
)

-- the first slot that is counted is there
pub first_within : (b : List ℕ) (kept : Option Kept) → HasHeader b → IsSnapshotOf b kept
    → gate_behind (rows_before kept) ≤ length b
first_within b None header of = let long = header.long in omega (arith, long)
first_within b (Some kept) header of = omega (arith, of.ends.long)

-- and so are those that are open behind it
pub counted_within : (first count : ℕ) (b : List ℕ) → first ≤ count → gate_behind first ≤ length b
    → length (open_rows (count - first) (drop (gate_behind first) b)) ≡ count - first
    → gate_behind count ≤ length b
counted_within first count b from within all =
    omega (
      arith,
      rows_fit (count - first) (drop (gate_behind first) b) all,
      length-drop (gate_behind first) b,
      from,
      within,
    )

-- a journal's rows are those that are counted
pub rows_are_counted : (b : List ℕ) (rows : List (List ℕ)) (kept : Option Kept) (count : ℕ)
    → IsJournalOf rows b → IsSnapshotOf b kept → length rows ≤ MAX_ROWS
    → count ≡ rows_before kept + slots_behind (rows_before kept) b → length rows ≡ count
rows_are_counted b rows kept count is of few slots =
    omega (
      arith,
      journal_slots b rows is (rows_before kept)
          (snapshot_within b rows kept is of) few,
      slots,
    )
