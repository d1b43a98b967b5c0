-- The gate behind the rows is closed where it isn't.
use Rattle.std.proofs.Common.{◌≡◌, ◌≢◌, ◌⊎◌, inl, inr, ⊎_elim, ℕ, ◌+◌, ◌-◌, ◌*◌, ◌<◌, ◌≤◌, Bool, true, false, List, [], ◌∷◌, length, get_or, drop, refl, sym, ◌∙◌, ap, subst, arith, nat_lt, ◌||◌, if◌then◌else◌, Option, Some, None, Result}
use Rattle.std.proofs.lemmas.List.{drop-drop, get_or-drop, get_or-take}
use Rattle.std.proofs.lemmas.Bool.{cases_lt}
use Rattle.book_snapshot.specs.declared.types.Kept.{Kept}
use Rattle.book_snapshot.specs.Layout.{snapshot_place}
use Rattle.book_snapshot.specs.Blocks.{EndsWithSnapshot}
use Rattle.std.proofs.lemmas.Bool.Decides.{nat_tests}
use Rattle.hall_limits.specs.declared.TheConstants.{MAX_ROWS}
use Rattle.disk_core.specs.Disk.{overwritten, Only}
use Rattle.disk_core.specs.Devices.{LeavesOnly}
use Rattle.disk_core.specs.declared.disk.Disk as disk
use Rattle.book_snapshot.specs.declared.layout.TheConstants.{MARK, ROW_BYTES}
use Rattle.book_snapshot.specs.DenseRows.{AreRows}
use Rattle.book_journal.specs.declared.layout.TheConstants.{CLOSED, MAX_SLOTS}
use Rattle.book_journal.specs.Rows.{Recovers, IsJournalOf, starts_open, rows_of, gate_behind}
use Rattle.book_journal.specs.Settles.{TornFrom, Settles}
use Rattle.book_journal.specs.Mounting.{IsSnapshotOf, rows_before, slots_behind, stands_closed, closed_behind}
use Rattle.book_journal.specs.Closing.{EndsAt}
use Rattle.book_journal.proofs.Gates.{rows_kept, recovers_stop, cut_behind}
use Rattle.book_journal.proofs.OpenEnds.{journal_of, journal_rows, no_snapshot_cut, cut_unless, rows_counted, rows_ended, slot_open}
use Rattle.book_journal.proofs.Moments.{started, goes_on}

otherwise : (test : Bool) (x y : List ℕ) → test ≡ false → (if test then x else y) ≡ y
otherwise false x y is = refl
otherwise true x y is = absurd cc

pub closed_written : (count : ℕ) (b : List ℕ) → count ≤ MAX_ROWS
    → stands_closed (gate_behind count) b ≡ false
    → closed_behind count b ≡ overwritten b (gate_behind count) (CLOSED ∷ [])
closed_written count b few other =
    otherwise (nat_lt MAX_ROWS count || stands_closed (gate_behind count) b) b
    (overwritten b (gate_behind count) (CLOSED ∷ []))
    (either (nat_lt MAX_ROWS count) (stands_closed (gate_behind count) b)
    (not_lt MAX_ROWS count few) other)
  where
    not_lt : (m n : ℕ) → n ≤ m → nat_lt m n ≡ false
    not_lt m n le = grind (arith, nat_tests)

    either : (x y : Bool) → x ≡ false → y ≡ false → (x || y) ≡ false
    either false y first second = second
    either true y first second = absurd cc

module _ {D : Type 0} (g : disk.Ghosts D)
    (reads_image : (d : D) (bytes : List ℕ) → g.reads d ≡ Some bytes → g.image d bytes)
    (only_now : (d : D) (c : List ℕ) → g.since d (g.time d) c → g.image d c) (size count : ℕ)
    (old : D) (b : List ℕ) (only : Only b (g.image old)) (at : EndsAt size count b)
    (few : count ≤ MAX_ROWS) (other : stands_closed (gate_behind count) b ≡ false) {T E : Type 0}
    (result : Result T E) (new : D)
    (s : Settles g (gate_behind count) (CLOSED ∷ []) result b old new) where
  shut : starts_open (drop (gate_behind count) b) ≡ false
  shut = ⊎_elim (λ full. absurd (omega (arith, full, few))) (λ is. is) at.end

  cut : length b < gate_behind count + ROW_BYTES
  cut = cut_unless count b shut other

  module _ (rows : List (List ℕ)) (recovers : Recovers b rows) (counts : length rows ≡ count) where
    journal : IsJournalOf rows b
    journal = journal_of b rows at.header recovers

    are : rows_of count b ≡ rows
    are = subst (λ (n : ℕ). rows_of n b ≡ rows) counts (journal_rows b rows journal)

    kept : (c : List ℕ) → TornFrom (g.image old) (gate_behind count) 1 (length s.now) c → (k : ℕ)
        → k < gate_behind count → get_or c k 0 ≡ get_or b k 0
    kept c torn k lt =
        let from_b : torn.0 ≡ b = only torn.0 torn.1 in
        torn.2.outside k (omega (arith, lt, at.within, ap length from_b)) (inl lt)
        ∙ ap (λ (l : List ℕ). get_or l k 0) from_b

    pub ending_recovers : (c : List ℕ)
        → TornFrom (g.image old) (gate_behind count) 1 (length s.now) c → Recovers c rows
    ending_recovers c torn =
        let from_b : torn.0 ≡ b = only torn.0 torn.1 in
        let long : gate_behind count ≤ length c =
        omega (arith, torn.2.no_shorter, at.within, ap length from_b) in
        let brief : length c < gate_behind count + ROW_BYTES =
        omega (arith, torn.2.no_longer, ap length from_b, s.torn.no_longer, cut) in
        let all : length (rows_of count b) ≡ count = ap length are ∙ counts in
        let same : (k : ℕ) → k < gate_behind count → k ≢ MARK → get_or c k 0 ≡ get_or b k 0 =
        λ k lt beside. kept c torn k lt in
        let there : length (rows_of count c) ≡ count = ap length (rows_kept count b c long same all)
        ∙ all in
        subst (λ (rs : List (List ℕ)). Recovers c rs) are
        (recovers_stop count b c at.header all
        (subst (λ (rs : List (List ℕ)). AreRows ROW_BYTES 1 rs) (sym are) journal.numbered) long
        same (cut_behind count c brief)
        (λ set n m ends. absurd (no_snapshot_cut count n m c there long brief ends)))

    pub ending_moments : LeavesOnly g old new (λ c. Recovers c rows)
    ending_moments =
        goes_on g old old new _ _
        (started g old _ (λ c was. subst (λ (l : List ℕ). Recovers l rows)
        (sym (only c (only_now old c was))) recovers))
        s.moments ending_recovers

-- a call that only read leaves what was recovered
pub still_recovers : {D : Type 0} (g : disk.Ghosts D) (old : D) (b : List ℕ) (rows : List (List ℕ))
    → Only b (g.image old) → Recovers b rows → (c : List ℕ) → g.image old c → Recovers c rows
still_recovers g old b rows only recovers c is =
    subst (λ (l : List ℕ). Recovers l rows) (sym (only c is)) recovers

-- behind a snapshot that fits a closed gate stands: in its slot, or at the snapshot's head
pub behind_snapshot : (b : List ℕ) (rows size count : ℕ) → EndsWithSnapshot rows size b
    → count ≡ rows + slots_behind rows b → closed_behind count b ≡ b
behind_snapshot b rows size count ends slots = elim (cases_lt MAX_ROWS count) [
  | inl full ↦ when (nat_lt MAX_ROWS count || stands_closed (gate_behind count) b) b
      (overwritten b (gate_behind count) (CLOSED ∷ []))
      (first_true (nat_lt MAX_ROWS count) (stands_closed (gate_behind count) b)
      (is_lt MAX_ROWS count full))
  | inr few ↦
      let place : gate_behind rows + ROW_BYTES * slots_behind rows b ≡ gate_behind count =
      omega (arith, slots) in
      let ended = rows_ended (MAX_SLOTS - rows) there (omega (arith, few, slots)) in
      let shut : starts_open (drop (gate_behind count) b) ≡ false =
      subst (λ (l : List ℕ). starts_open l ≡ false)
      (drop-drop (ROW_BYTES * slots_behind rows b) (gate_behind rows) b
      ∙ ap (λ (n : ℕ). drop n b) place) ended in
      ⊎_elim
      (λ closed. when (nat_lt MAX_ROWS count || stands_closed (gate_behind count) b) b
      (overwritten b (gate_behind count) (CLOSED ∷ []))
      (second_true (nat_lt MAX_ROWS count) (stands_closed (gate_behind count) b) closed))
      (λ other. absurd (omega (arith, cut_unless count b shut other, few_slots, slots, ends.long)))
      (true_or_false (stands_closed (gate_behind count) b))
]
  where
    there : List ℕ
    there = drop (gate_behind rows) b

    head_place : gate_behind rows + ROW_BYTES * 1 ≡ snapshot_place rows
    head_place = omega arith

    head_gate : get_or (drop (gate_behind rows) b) (ROW_BYTES * 1) 0 ≡ 0
    head_gate =
        let none : snapshot_place rows + 0 ≡ snapshot_place rows = omega arith in
        get_or-drop (gate_behind rows) b (ROW_BYTES * 1) 0
        ∙ ap (λ (n : ℕ). get_or b n 0) (head_place ∙ sym none)
        ∙ sym (get_or-drop (snapshot_place rows) b 0 0)
        ∙ sym (get_or-take ROW_BYTES (drop (snapshot_place rows) b) 0 0 (omega arith))
        ∙ ap (λ (l : List ℕ). get_or l 0 0) ends.head

    few_slots : slots_behind rows b ≤ 1
    few_slots = ⊎_elim (λ few. omega (arith, few)) (λ many.
        let opened = slot_open (slots_behind rows b) 1 (drop (gate_behind rows) b)
        (ap length (rows_counted (MAX_SLOTS - rows) (drop (gate_behind rows) b)))
        (omega (arith, many)) in
        absurd (omega (arith, opened, head_gate))) (cases_lt (slots_behind rows b) 2)

    is_lt : (m n : ℕ) → m < n → nat_lt m n ≡ true
    is_lt m n lt = grind (arith, nat_tests)

    first_true : (x y : Bool) → x ≡ true → (x || y) ≡ true
    first_true true y is = refl
    first_true false y is = absurd cc

    second_true : (x y : Bool) → y ≡ true → (x || y) ≡ true
    second_true true y is = refl
    second_true false y is = is

    when : (test : Bool) (x y : List ℕ) → test ≡ true → (if test then x else y) ≡ x
    when true x y is = refl
    when false x y is = absurd cc

    true_or_false : (test : Bool) → (test ≡ true) ⊎ (test ≡ false)
    true_or_false true = inl refl
    true_or_false false = inr refl

pub still_behind : (b : List ℕ) (kept : Option Kept) (found : Kept) (count : ℕ)
    → IsSnapshotOf b kept → count ≡ rows_before kept + slots_behind (rows_before kept) b
    → kept ≡ Some found → closed_behind count b ≡ b
still_behind b None found count of slots is = absurd cc
still_behind b (Some kept) found count of slots is =
    behind_snapshot b kept.rows kept.bytes count of.ends slots
