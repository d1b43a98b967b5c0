-- The front of a disk, and what a disk is mounted as.
use Rattle.std.proofs.Common.{◌≡◌, ◌≢◌, ◌⊎◌, inl, inr, ⊎_elim, ℕ, ◌+◌, ◌-◌, ◌<◌, ◌≤◌, min, Bool, true, false, not, List, [], ◌∷◌, length, get_or, take, drop, Option, Some, refl, sym, ◌∙◌, ap, subst, arith, nat_lt, ◌||◌, ◌==◌, if◌then◌else◌, length-drop}
use Rattle.std.proofs.lemmas.List.{get_or-take}
use Rattle.std.proofs.lemmas.Bool.{cases_eq}
use Rattle.std.proofs.lemmas.Bool.Decides.{nat_tests}
use Rattle.hall_limits.specs.declared.TheConstants.{MAX_ROWS}
use Rattle.disk_core.specs.Disk.{overwritten}
use Rattle.disk_core.specs.declared.disk.Disk as disk
use Rattle.book_snapshot.specs.declared.types.Kept.{Kept}
use Rattle.book_snapshot.specs.declared.layout.TheConstants.{MARK, ROW_BYTES, OPEN}
use Rattle.book_snapshot.specs.DenseRows.{AreRows}
use Rattle.book_journal.specs.declared.layout.TheConstants.{CLOSED, NEW_BYTES, MAX_SLOTS}
use Rattle.book_journal.specs.Rows.{HasHeader, FirstDiffersAt, Recovers, SnapshotAgrees, starts_open, rows_of, gate_behind, mark_of, title}
use Rattle.book_journal.specs.Journal.{HasGate, StandsAs, IsClosedAs, MarkedAs, HasRows}
use Rattle.book_journal.specs.Mounting.{new_journal, IsSnapshotOf, rows_before, slots_behind, stands_closed, closed_behind, IsMounted}
use Rattle.book_journal.proofs.OpenRows.{rows_fit, open_rows-none, padded}
use Rattle.book_journal.proofs.OpenEnds.{rows_counted, first_within, journal_of, journal_rows, journal_fits, journal_ends, rows_are_counted, short_none, no_snapshot_cut, cut_unless, closed_is}
use Rattle.book_journal.proofs.EndGates.{closed_written}
use Rattle.book_journal.proofs.Journals.{stands_at}
use Rattle.book_journal.proofs.Gates.{header_same, rows_kept}
use Rattle.book_journal.proofs.JournalSteps.{closed_stands}
use Rattle.book_journal.proofs.ByteWrites.{written_at, kept_below, overwritten_size}

-- the front as it was read
pub front_read : (b front : List ℕ) (got : ℕ) → length front ≡ ROW_BYTES → ROW_BYTES ≤ length b
    → got ≡ min (length front) (length b - 0) → take got front ≡ take got (drop 0 b) → (k : ℕ)
    → k < ROW_BYTES → get_or front k 0 ≡ get_or b k 0
front_read b front got size long all same k lt =
    let whole : got ≡ ROW_BYTES = omega (arith, size, long, all) in
    sym (get_or-take got front k 0 (omega (arith, lt, whole)))
    ∙ ap (λ (l : List ℕ). get_or l k 0) same ∙ get_or-take got b k 0 (omega (arith, lt, whole))

pub header_read : (b front : List ℕ) → ROW_BYTES ≤ length b
    → ((k : ℕ) → k < ROW_BYTES → get_or front k 0 ≡ get_or b k 0)
    → ((k : ℕ) → k < ROW_BYTES → k ≢ MARK → get_or front k 0 ≡ get_or title k 0) → HasHeader b
header_read b front long same all =
    record { long = long; same = λ k lt other. sym (same k lt) ∙ all k lt other }

pub difference_read : (b front : List ℕ) (place : ℕ)
    → ((k : ℕ) → k < ROW_BYTES → get_or front k 0 ≡ get_or b k 0) → FirstDiffersAt front place
    → FirstDiffersAt b place
difference_read b front place same found =
    let inside = found.inside in
    record {
      inside = inside;
      counts = found.counts;
      differs = λ is. found.differs (same place inside ∙ is);
      first = λ k lt other. sym (same k (omega (arith, lt, inside))) ∙ found.first k lt other;
    }

-- bytes that differ have no header
pub no_header : (b : List ℕ) (place : ℕ) → FirstDiffersAt b place → HasHeader b → ⊥
no_header b place found header = found.differs (header.same place found.inside found.counts)

-- a new journal begins with the header, and its gate is closed
pub new_header : HasHeader new_journal
new_header = record {
  long = omega arith;
  same =
      λ k lt other. padded title (NEW_BYTES - length title) k;
}

-- what stands behind the rows once the gate is closed
module _ (count : ℕ) (b : List ℕ) (header : HasHeader b) (within : gate_behind count ≤ length b)
    (few : count ≤ MAX_ROWS) where
  before_gate : (k : ℕ) → k < gate_behind count
      → get_or (overwritten b (gate_behind count) (CLOSED ∷ [])) k 0 ≡ get_or b k 0
  before_gate k lt = kept_below b (gate_behind count) (CLOSED ∷ []) k within lt

  written_long : gate_behind count < length (overwritten b (gate_behind count) (CLOSED ∷ []))
  written_long = omega (arith, overwritten_size b (gate_behind count) (CLOSED ∷ []) within)

  written_gate : get_or (overwritten b (gate_behind count) (CLOSED ∷ [])) (gate_behind count) 0 ≢ OPEN
  written_gate opened =
      absurd (omega (
        arith,
        opened,
        written_at b (gate_behind count) (CLOSED ∷ []) 0
            (gate_behind count) within (omega arith) (omega arith),
      ))

  -- it is one of two: what was there, with a closed gate, or with one written
  pub either_closed : ((closed_behind count b ≡ b) × (gate_behind count < length b)
      × (get_or b (gate_behind count) 0 ≢ OPEN))
      ⊎ ((closed_behind count b ≡ overwritten b (gate_behind count) (CLOSED ∷ []))
      × (stands_closed (gate_behind count) b ≡ false))
  either_closed = at (stands_closed (gate_behind count) b) refl
    where
      then_is : (x y : Bool) (p q : List ℕ) → y ≡ true → (if x || y then p else q) ≡ p
      then_is true true p q is = refl
      then_is false true p q is = refl
      then_is true false p q is = refl
      then_is false false p q is = absurd cc

      at : (closed : Bool) → stands_closed (gate_behind count) b ≡ closed
          → ((closed_behind count b ≡ b) × (gate_behind count < length b)
          × (get_or b (gate_behind count) 0 ≢ OPEN))
          ⊎ ((closed_behind count b ≡ overwritten b (gate_behind count) (CLOSED ∷ []))
          × (stands_closed (gate_behind count) b ≡ false))
      at true is = let facts = closed_is (gate_behind count) b is in
          inl (
            then_is (nat_lt MAX_ROWS count) (stands_closed (gate_behind count) b) b
                (overwritten b (gate_behind count) (CLOSED ∷ [])) is,
            facts.0,
            facts.1,
          )
      at false is = inr (closed_written count b few is, is)

  pub closed_gate_behind : HasGate count (closed_behind count b)
  closed_gate_behind = ⊎_elim
      (λ still. subst (λ (l : List ℕ). HasGate count l) (sym still.0) record
      { header = header; long = still.1 })
      (λ wrote. subst (λ (l : List ℕ). HasGate count l) (sym wrote.0) record {
        header = header_same b (overwritten b (gate_behind count) (CLOSED ∷ [])) header
            (let long = written_long in omega (arith, long))
            (λ k lt other. before_gate k (omega (arith, lt)));
        long = written_long;
      })
      either_closed

  pub closed_behind_as : IsClosedAs count b (closed_behind count b)
  closed_behind_as = ⊎_elim
      (λ still. subst (λ (l : List ℕ). IsClosedAs count b l) (sym still.0) record
      { long = still.1; same = λ k lt other. refl; gate = still.2 })
      (λ wrote. subst (λ (l : List ℕ). IsClosedAs count b l) (sym wrote.0) record
      { long = written_long; same = λ k lt other. before_gate k lt; gate = written_gate })
      either_closed

  -- the mark stays, and where it is set a snapshot agrees still
  pub closed_marks : (rows : List (List ℕ)) → rows_of count b ≡ rows
      → length (rows_of count b) ≡ count → starts_open (drop (gate_behind count) b) ≡ false
      → (mark_of b ≢ 0 → SnapshotAgrees rows b)
      → MarkedAs (not (mark_of b == 0)) rows (length (closed_behind count b))
      (closed_behind count b)
  closed_marks rows are counts shut agrees = at (cases_eq (mark_of b) 0)
    where
      same_mark : mark_of (closed_behind count b) ≡ mark_of b
      same_mark = closed_behind_mark
        where
          closed_behind_mark : mark_of (closed_behind count b) ≡ mark_of b
          closed_behind_mark = ⊎_elim (λ still. ap (λ (l : List ℕ). mark_of l) still.0)
              (λ wrote. ap (λ (l : List ℕ). mark_of l) wrote.0 ∙ before_gate MARK (omega arith))
              either_closed

      still_agrees : SnapshotAgrees rows b → SnapshotAgrees rows (closed_behind count b)
      still_agrees agree = ⊎_elim
          (λ still. subst (λ (l : List ℕ). SnapshotAgrees rows l) (sym still.0) agree)
          (λ wrote. λ n m ends. absurd (no_snapshot_cut count n m (closed_behind count b)
          (ap length (rows_kept count b (closed_behind count b)
          (let long = (closed_behind_as).long in omega (arith, long))
          (closed_behind_as).same counts) ∙ counts)
          (let long = (closed_behind_as).long in omega (arith, long))
          (omega (
            arith,
            ap length wrote.0,
            overwritten_size b (gate_behind count) (CLOSED ∷ []) within,
            cut_unless count b shut wrote.1,
          ))
          ends))
          either_closed

      marked_by : (test : Bool) → test ≡ true
          → MarkedAs true rows (length (closed_behind count b)) (closed_behind count b)
          → MarkedAs test rows (length (closed_behind count b)) (closed_behind count b)
      marked_by test is marks = subst
          (λ (t : Bool). MarkedAs t rows (length (closed_behind count b)) (closed_behind count b))
          (sym is) marks

      unmarked_by : (test : Bool) → test ≡ false
          → MarkedAs false rows (length (closed_behind count b)) (closed_behind count b)
          → MarkedAs test rows (length (closed_behind count b)) (closed_behind count b)
      unmarked_by test is marks = subst
          (λ (t : Bool). MarkedAs t rows (length (closed_behind count b)) (closed_behind count b))
          (sym is) marks

      not_zero : (n : ℕ) → n ≢ 0 → not (n == 0) ≡ true
      not_zero n other = grind (arith, nat_tests)

      is_zero : (n : ℕ) → n ≡ 0 → not (n == 0) ≡ false
      is_zero n none = grind (arith, nat_tests)

      at : (mark_of b ≡ 0) ⊎ (mark_of b ≢ 0)
          → MarkedAs (not (mark_of b == 0)) rows (length (closed_behind count b))
          (closed_behind count b)
      at (inl none) = unmarked_by (not (mark_of b == 0)) (is_zero (mark_of b) none) (same_mark ∙ none)
      at (inr set) = marked_by (not (mark_of b == 0)) (not_zero (mark_of b) set)
          (refl, still_agrees (agrees set))

-- the slots that were counted are there
pub slots_within : (b : List ℕ) (kept : Option Kept) (count : ℕ) → HasHeader b → IsSnapshotOf b kept
    → count ≡ rows_before kept + slots_behind (rows_before kept) b → gate_behind count ≤ length b
slots_within b kept count header of slots =
    let first = rows_before kept in
    let there = drop (gate_behind first) b in
    let all = ap length (rows_counted (MAX_SLOTS - first) there) in
    omega (
      arith,
      slots,
      first_within b kept header of,
      rows_fit (slots_behind first b) there all,
      length-drop (gate_behind first) b,
    )

module _ {D : Type 0} (g : disk.Ghosts D)
    (reads_image : (d : D) (bytes : List ℕ) → g.reads d ≡ Some bytes → g.image d bytes) (b : List ℕ)
    (kept : Option Kept) (count : ℕ) (marked : Bool) (new : D) where
  -- a disk that recovers rows is mounted as a journal that has them
  pub mounted_rows : IsMounted g b kept count marked new → (rows : List (List ℕ)) → Recovers b rows
      → length rows ≤ MAX_ROWS → HasRows g
      (record { disk = new; count = count; hanging = false; marked = marked; kept = kept }) rows
  mounted_rows (inl finds) rows recovers few =
      let is = journal_of b rows finds.header recovers in
      let counts = rows_are_counted b rows kept count is finds.snapshot few finds.slots in
      let small : count ≤ MAX_ROWS = omega (arith, counts, few) in
      let within : gate_behind count ≤ length b =
      subst (λ (n : ℕ). gate_behind n ≤ length b) counts (journal_fits b rows is) in
      let shut : starts_open (drop (gate_behind count) b) ≡ false =
      subst (λ (n : ℕ). starts_open (drop (gate_behind n) b) ≡ false) counts
      (journal_ends b rows is) in
      let are : rows_of count b ≡ rows =
      subst (λ (n : ℕ). rows_of n b ≡ rows) counts (journal_rows b rows is) in
      let all : length (rows_of count b) ≡ count = ap length are ∙ counts in
      let now = closed_behind count b in
      let closed = closed_behind_as count b finds.header within small in
      let long = closed.long in
      let same = rows_kept count b now (omega (arith, long)) closed.same all in
      let numbered = subst (λ (rs : List (List ℕ)). AreRows ROW_BYTES 1 rs) (sym are) is.numbered in
      let agrees : mark_of b ≢ 0 → SnapshotAgrees (rows_of count b) b =
      λ set. subst (λ (rs : List (List ℕ)). SnapshotAgrees rs b) (sym are) (is.snapshot set) in
      let marks = closed_marks count b finds.header within small
      (rows_of count b) refl all shut agrees in
      record {
        bytes = now;
        told = finds.reads;
        are = same ∙ are;
        stands = closed_stands count marked b now (g.image new) finds.header all numbered
            (reads_image new now finds.reads)
            (λ c at_c. subst (λ (l : List ℕ). IsClosedAs count b l) (sym (finds.only c at_c)) closed)
            (λ c at_c. subst (λ (m : Bool). MarkedAs m (rows_of count b) (length now) c)
            (sym finds.mark)
            (subst (λ (l : List ℕ). MarkedAs (not (mark_of b == 0)) (rows_of count b)
            (length now) l) (sym (finds.only c at_c)) marks));
      }
  mounted_rows (inr makes) rows recovers few =
      let none = short_none b rows makes.short recovers in
      let closed : IsClosedAs 0 new_journal new_journal =
      record {
        long = omega arith;
        same = λ k lt other. refl;
        gate =
            λ opened. zero_one (get_or new_journal (gate_behind 0) 0) refl opened;
      } in
      let empty : rows_of 0 new_journal ≡ [] = open_rows-none (drop ROW_BYTES new_journal) in
      let stands : StandsAs 0 false false new_journal (g.image new) =
      closed_stands 0 false new_journal new_journal (g.image new) new_header (ap length empty)
      (subst (λ (rs : List (List ℕ)). AreRows ROW_BYTES 1 rs) (sym empty) tt)
      (reads_image new new_journal makes.reads)
      (λ c at_c. subst (λ (l : List ℕ). IsClosedAs 0 new_journal l) (sym (makes.only c at_c)) closed)
      (λ c at_c. ap (λ (l : List ℕ). mark_of l) (makes.only c at_c)) in
      record {
        bytes = new_journal;
        told = makes.reads;
        are = ap (λ (n : ℕ). rows_of n new_journal) makes.slots ∙ empty ∙ sym none;
        stands = stands_at 0 count false false false marked new_journal (g.image new)
            (sym makes.slots) refl (sym makes.mark) stands;
      }
    where
      zero_one : (n : ℕ) → n ≡ CLOSED → n ≡ OPEN → ⊥
      zero_one n closed opened = absurd (omega (arith, closed, opened))

  -- and on any disk the gate behind them is there
  pub mounted_gate : IsMounted g b kept count marked new → count ≤ MAX_ROWS → (now : List ℕ)
      × (g.reads new ≡ Some now) × HasGate count now
  mounted_gate (inl finds) few = (
    closed_behind count b,
    finds.reads,
    closed_gate_behind count b finds.header
        (slots_within b kept count finds.header finds.snapshot finds.slots) few,
  )
  mounted_gate (inr makes) few = (
    new_journal,
    makes.reads,
    subst (λ (n : ℕ). HasGate n new_journal) (sym makes.slots) record
        { header = new_header; long = omega arith },
  )
