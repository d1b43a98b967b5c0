-- What the calls on a journal leave of its rows.
use Rattle.std.proofs.Common.{◌≡◌, ◌⊎◌, inl, inr, ⊎_elim, ℕ, ◌+◌, ◌-◌, ◌≤◌, Bool, true, false, Some, IsTrue, Result, OnOk, List, [], ◌∷◌, ◌++◌, length, refl, sym, ◌∙◌, ap, subst, arith, length-append, if◌then◌else◌}
use Rattle.disk_core.specs.Disk.{overwritten, Only}
use Rattle.disk_core.specs.Devices.{LeavesOnly}
use Rattle.disk_core.specs.declared.disk.Disk as disk
use Rattle.book_snapshot.specs.declared.layout.TheConstants.{MARK, ROW_BYTES, OPEN}
use Rattle.book_snapshot.specs.DenseRows.{IsRow}
use Rattle.book_journal.specs.declared.layout.TheConstants.{CLOSED}
use Rattle.book_journal.specs.declared.journal.Journal.{Journal}
use Rattle.book_journal.specs.Rows.{Recovers, SnapshotAgrees, rows_of, gate_behind, row_behind}
use Rattle.book_journal.specs.Journal.{StandsAs, HasRows, RecoversOrHangs}
use Rattle.book_journal.specs.Settles.{Settles}
use Rattle.book_journal.specs.Appending.{cleared, KeepsRows}
use Rattle.book_journal.specs.Laying.{WritesBehind}
use Rattle.book_journal.specs.Marking.{AreMarked}
use Rattle.book_journal.proofs.Journals.{true_or_false, stands_at, image_keeps}
use Rattle.book_journal.proofs.JournalSteps.{first_stands, first_rows, first_moments, staged_stands, staged_row, gate_stands, gate_rows, gate_row, gate_moments, closed_gate_stands, open_gate_rows, open_gate_stands}
use Rattle.book_journal.proofs.Signs.{sign_stands, sign_rows, sign_moments, sign_is, unmarked_stands, laid_stands, laid_rows, laid_moments, markable_stands}
use Rattle.book_journal.proofs.ByteWrites.{overwritten_again, overwritten_apart, overwritten_size}
use Rattle.book_journal.proofs.Moments.{started, leaves_in, leaves_on}
use Rattle.book_journal.proofs.Results.{ok_in}

pub no_both : {A : Type 0} (b : Bool) → b ≡ true → b ≡ false → A
no_both b is other = absurd cc

module _ {D : Type 0} (g : disk.Ghosts D)
    (reads_image : (d : D) (bytes : List ℕ) → g.reads d ≡ Some bytes → g.image d bytes)
    (only_now : (d : D) (c : List ℕ) → g.since d (g.time d) c → g.image d c) (journal : Journal D)
    (rows : List (List ℕ)) (has : HasRows g journal rows) where
  as_rows : (c : List ℕ) → Recovers c (rows_of journal.count has.bytes) → Recovers c rows
  as_rows c is = subst (λ (rs : List (List ℕ)). Recovers c rs) has.are is

  -- no call
  pub kept_still : KeepsRows g journal journal rows
  kept_still = record {
    has = has;
    moments = started g journal.disk (RecoversOrHangs g journal rows)
        (λ c was. image_keeps g reads_image only_now journal rows has c
        (only_now journal.disk c was));
  }

  calm_of_marked : journal.marked ≡ true → journal.hanging ≡ false
  calm_of_marked marked = ⊎_elim
      (λ hangs. no_both journal.marked marked (has.stands.hung hangs).unmarked) (λ calm. calm)
      (true_or_false journal.hanging)

  -- a write of the mark
  module _ (marked : journal.marked ≡ true) (byte : ℕ) {T E : Type 0} (result : Result T E)
      (new : D) (s : Settles g MARK (byte ∷ []) result has.bytes journal.disk new) where
    there : StandsAs journal.count false true has.bytes (g.image journal.disk)
    there = stands_at journal.count journal.count journal.hanging false journal.marked true
        has.bytes (g.image journal.disk) refl (calm_of_marked marked) marked has.stands

    pub signed : KeepsRows g journal (record journal { disk = new }) rows
    signed = record {
      has = record {
        bytes = s.now;
        told = s.told;
        are = sign_rows g reads_image only_now journal.count journal.disk has.bytes has.told there
            byte result new s ∙ has.are;
        stands = stands_at journal.count journal.count false journal.hanging true journal.marked
            s.now (g.image new) refl (sym (calm_of_marked marked)) (sym marked)
            (sign_stands g reads_image only_now journal.count journal.disk has.bytes has.told there
            byte result new s);
      };
      moments = leaves_in g journal.disk new _ (RecoversOrHangs g journal rows)
          (sign_moments g reads_image only_now journal.count journal.disk has.bytes has.told there
          byte result new s) (λ c is. inl (as_rows c is));
    }

    pub signed_as : OnOk result (AreMarked g (record journal { disk = new }) byte)
    signed_as = ok_in result _ _ (sign_is g reads_image only_now journal.count journal.disk
        has.bytes has.told there byte result new s) s.done

  -- the gate of the row that hangs is closed
  module _ (hangs : journal.hanging ≡ true) {T E : Type 0} (result : Result T E) (new : D)
      (s : Settles g (gate_behind journal.count) (CLOSED ∷ []) result has.bytes journal.disk new)
    where
      quiet : journal.marked ≡ false
      quiet = (has.stands.hung hangs).unmarked

      hung : StandsAs journal.count true false has.bytes (g.image journal.disk)
      hung = stands_at journal.count journal.count journal.hanging true journal.marked false has.bytes
          (g.image journal.disk) refl hangs quiet has.stands

      closing_moments : LeavesOnly g journal.disk new (RecoversOrHangs g journal rows)
      closing_moments =
          leaves_in g journal.disk new _ (RecoversOrHangs g journal rows)
          (gate_moments g reads_image only_now journal.count journal.disk has.bytes has.told hung
          CLOSED result new s) (λ c either.
          ⊎_elim (λ without. inl (as_rows c without))
          (λ with_it. inr (
            row_behind journal.count has.bytes,
            record { hangs = is_hanging; bytes = has.bytes; told = has.told; stands = refl },
            subst (λ (rs : List (List ℕ)). Recovers c
                (rs ++ row_behind journal.count has.bytes ∷ [])) has.are with_it,
          ))
          either)
        where
          is_hanging : IsTrue journal.hanging
          is_hanging = hangs

      pub closing : KeepsRows g journal (record journal { disk = new }) rows
      closing = record {
        has = record {
          bytes = s.now;
          told = s.told;
          are = gate_rows g reads_image only_now journal.count journal.disk has.bytes has.told hung
              CLOSED result new s ∙ has.are;
          stands = stands_at journal.count journal.count true journal.hanging false journal.marked
              s.now (g.image new) refl (sym hangs) (sym quiet)
              (gate_stands g reads_image only_now journal.count journal.disk has.bytes has.told hung
              CLOSED result new s);
        };
        moments = closing_moments;
      }

      pub closing_row : row_behind journal.count s.now ≡ row_behind journal.count has.bytes
      closing_row = gate_row g reads_image only_now journal.count journal.disk has.bytes has.told hung
          CLOSED result new s

      pub closed : (s.now ≡ overwritten has.bytes (gate_behind journal.count) (CLOSED ∷ []))
          × Only s.now (g.image new) → KeepsRows g journal
          (record journal { disk = new; hanging = false }) rows
      closed done = record {
        has = record {
          bytes = s.now;
          told = s.told;
          are = gate_rows g reads_image only_now journal.count journal.disk has.bytes has.told hung
              CLOSED result new s ∙ has.are;
          stands = stands_at journal.count journal.count false false false journal.marked s.now
              (g.image new) refl refl (sym quiet)
              (closed_gate_stands g reads_image only_now journal.count journal.disk has.bytes has.told
              hung CLOSED result new s done (λ is. absurd (omega (arith, is))));
        };
        moments = closing_moments;
      }

  -- a row is put behind the closed gate
  module _ (calm : journal.hanging ≡ false) (quiet : journal.marked ≡ false) (row tail : List ℕ)
      (size : length tail ≡ ROW_BYTES - 1) (row_is : OPEN ∷ tail ≡ row)
      (is_row : IsRow ROW_BYTES (journal.count + 1) row) {T E : Type 0} (result : Result T E)
      (mid : D) (s : Settles g (gate_behind journal.count + 1)
      (tail ++ CLOSED ∷ []) result has.bytes journal.disk mid) where
    shut : StandsAs journal.count false false has.bytes (g.image journal.disk)
    shut = stands_at journal.count journal.count journal.hanging false journal.marked false
        has.bytes (g.image journal.disk) refl calm quiet has.stands

    same_rows : rows_of journal.count s.now ≡ rows
    same_rows = first_rows g reads_image only_now journal.count journal.disk has.bytes has.told shut
        (tail ++ CLOSED ∷ []) result mid s ∙ has.are

    pub unput : HasRows g (record journal { disk = mid }) rows
    unput = record {
      bytes = s.now;
      told = s.told;
      are = same_rows;
      stands = stands_at journal.count journal.count false journal.hanging false journal.marked
          s.now (g.image mid) refl (sym calm) (sym quiet)
          (first_stands g reads_image only_now journal.count journal.disk has.bytes has.told shut
          (tail ++ CLOSED ∷ []) result mid s);
    }

    pub unput_moments : LeavesOnly g journal.disk mid
        (λ c. Recovers c rows ⊎ Recovers c (rows ++ row ∷ []))
    unput_moments = leaves_in g journal.disk mid _
        (λ c. Recovers c rows ⊎ Recovers c (rows ++ row ∷ []))
        (first_moments g reads_image only_now journal.count journal.disk has.bytes has.told shut
        (tail ++ CLOSED ∷ []) result mid s) (λ c is. inl (as_rows c is))

    module _ (done : (s.now ≡ overwritten has.bytes (gate_behind journal.count + 1)
        (tail ++ CLOSED ∷ [])) × Only s.now (g.image mid)) {T' E' : Type 0} (result' : Result T' E')
        (new : D) (s' : Settles g (gate_behind journal.count) (OPEN ∷ []) result' s.now mid new)
      where
        as_row : IsRow ROW_BYTES (journal.count + 1) (OPEN ∷ tail)
        as_row = subst (λ (r : List ℕ). IsRow ROW_BYTES (journal.count + 1) r) (sym row_is) is_row

        staged : StandsAs journal.count true false s.now (g.image mid)
        staged = staged_stands g reads_image only_now journal.count journal.disk has.bytes has.told
            shut tail size as_row result mid s done

        staged_is : row_behind journal.count s.now ≡ row
        staged_is = staged_row g reads_image only_now journal.count journal.disk has.bytes has.told
            shut tail size as_row result mid s done ∙ row_is

        pub half_put : HasRows g (record journal { disk = new; hanging = true }) rows
        half_put = record {
          bytes = s'.now;
          told = s'.told;
          are = gate_rows g reads_image only_now journal.count mid s.now s.told staged OPEN result'
              new s' ∙ same_rows;
          stands = stands_at journal.count journal.count true true false journal.marked s'.now
              (g.image new) refl refl (sym quiet)
              (gate_stands g reads_image only_now journal.count mid s.now s.told staged OPEN result'
              new s');
        }

        pub half_row : row_behind journal.count s'.now ≡ row
        half_row = gate_row g reads_image only_now journal.count mid s.now s.told staged OPEN result'
            new s' ∙ staged_is

        pub put_moments : LeavesOnly g journal.disk new
            (λ c. Recovers c rows ⊎ Recovers c (rows ++ row ∷ []))
        put_moments =
            leaves_on g journal.disk mid new
            (λ c. Recovers c rows ⊎ Recovers c (rows ++ row ∷ [])) unput_moments
            (leaves_in g mid new _ (λ c. Recovers c rows ⊎ Recovers c (rows ++ row ∷ []))
            (gate_moments g reads_image only_now journal.count mid s.now s.told staged OPEN
            result' new s') (λ c either.
            ⊎_elim
            (λ without. inl (subst (λ (rs : List (List ℕ)). Recovers c rs) same_rows without))
            (λ with_it. inr (subst (λ (r : List ℕ). Recovers c (rows ++ r ∷ [])) staged_is
            (subst (λ (rs : List (List ℕ)). Recovers c
            (rs ++ row_behind journal.count s.now ∷ [])) same_rows with_it)))
            either))

        pub put : (s'.now ≡ overwritten s.now (gate_behind journal.count) (OPEN ∷ []))
            × Only s'.now (g.image new) → HasRows g
            (record journal { disk = new; hanging = false; count = journal.count + 1 })
            (rows ++ row ∷ [])
        put opened = record {
          bytes = s'.now;
          told = s'.told;
          are = open_gate_rows g reads_image only_now journal.count mid s.now s.told staged OPEN
              result' new s' opened refl
              ∙ ap (λ (rs : List (List ℕ)). rs ++ row_behind journal.count s.now ∷ []) same_rows
              ∙ ap (λ (r : List ℕ). rows ++ r ∷ []) staged_is;
          stands = stands_at (journal.count + 1)
              (journal.count + 1) false false false journal.marked s'.now (g.image new) refl refl
              (sym quiet)
              (open_gate_stands g reads_image only_now journal.count mid s.now s.told staged OPEN
              result' new s' opened refl);
        }

-- the mark of a marked journal was cleared
pub cleared_rows : {D : Type 0} (g : disk.Ghosts D) (journal : Journal D) (rows : List (List ℕ))
    → journal.marked ≡ true → HasRows g journal rows → AreMarked g journal CLOSED
    → HasRows g (record journal { marked = false }) rows
cleared_rows g journal rows marked has are =
    let calm : journal.hanging ≡ false =
    ⊎_elim (λ hangs. no_both journal.marked marked (has.stands.hung hangs).unmarked)
    (λ calm. calm) (true_or_false journal.hanging) in
    let there = stands_at journal.count journal.count journal.hanging false journal.marked true
    has.bytes (g.image journal.disk) refl calm marked has.stands in
    record {
      bytes = has.bytes;
      told = has.told;
      are = has.are;
      stands = stands_at journal.count journal.count false journal.hanging false false has.bytes
          (g.image journal.disk) refl (sym calm) refl
          (unmarked_stands journal.count has.bytes (g.image journal.disk) there are);
    }

-- what an append writes hides the closing of the gate
pub row_over_gate : (hanging marked : Bool) (b row : List ℕ) (gate : ℕ) → ROW_BYTES ≤ gate
    → gate ≤ length b → overwritten
    (cleared marked (if hanging then overwritten b gate (CLOSED ∷ []) else b)) gate
    (row ++ CLOSED ∷ []) ≡ overwritten (cleared marked b) gate (row ++ CLOSED ∷ [])
row_over_gate false marked b row gate beyond within = refl
row_over_gate true false b row gate beyond within =
    overwritten_again b gate gate (CLOSED ∷ []) (row ++ CLOSED ∷ []) (omega arith)
    (omega (arith, length-append row (CLOSED ∷ []))) within
row_over_gate true true b row gate beyond within =
    let low = overwritten b MARK (CLOSED ∷ []) in
    let size = overwritten_size b MARK (CLOSED ∷ []) (omega (arith, beyond, within)) in
    ap (λ (l : List ℕ). overwritten l gate (row ++ CLOSED ∷ []))
    (sym (overwritten_apart b MARK gate (CLOSED ∷ []) (CLOSED ∷ [])
    (omega (arith, beyond)) within))
    ∙ overwritten_again low gate gate (CLOSED ∷ []) (row ++ CLOSED ∷ []) (omega arith)
    (omega (arith, length-append row (CLOSED ∷ []))) (omega (arith, size, within))

-- writes behind the closed gate leave the rows
module _ {D : Type 0} (g : disk.Ghosts D)
    (reads_image : (d : D) (bytes : List ℕ) → g.reads d ≡ Some bytes → g.image d bytes)
    (only_now : (d : D) (c : List ℕ) → g.since d (g.time d) c → g.image d c) (journal : Journal D)
    (rows : List (List ℕ)) (has : HasRows g journal rows) (calm : journal.hanging ≡ false)
    (quiet : journal.marked ≡ false) {T E : Type 0} (bytes : List ℕ) (result : Result T E) (new : D)
    (w : WritesBehind g (gate_behind journal.count + 1) bytes result has.bytes journal.disk new)
  where
    flat : StandsAs journal.count false false has.bytes (g.image journal.disk)
    flat = stands_at journal.count journal.count journal.hanging false journal.marked false has.bytes
        (g.image journal.disk) refl calm quiet has.stands

    pub laid_has : HasRows g (record journal { disk = new }) rows
    laid_has = record {
      bytes = w.now;
      told = w.told;
      are = laid_rows g reads_image only_now journal.count journal.disk has.bytes has.told flat bytes
          result new w ∙ has.are;
      stands = stands_at journal.count journal.count false journal.hanging false journal.marked w.now
          (g.image new) refl (sym calm) (sym quiet)
          (laid_stands g reads_image only_now journal.count journal.disk has.bytes has.told flat bytes
          result new w);
    }

    pub laid_leaves : LeavesOnly g journal.disk new (λ c. Recovers c rows)
    laid_leaves = leaves_in g journal.disk new _ (λ c. Recovers c rows)
        (laid_moments g reads_image only_now journal.count journal.disk has.bytes has.told flat bytes
        result new w) (λ c is. subst (λ (rs : List (List ℕ)). Recovers c rs) has.are is)

-- a call that only read or synced leaves the rows
pub synced_has : {D : Type 0} (g : disk.Ghosts D) (journal : Journal D) (disk : D)
    (rows : List (List ℕ)) → g.reads disk ≡ g.reads journal.disk
    → ((c : List ℕ) → g.image disk c → g.image journal.disk c) → HasRows g journal rows
    → HasRows g (record journal { disk = disk }) rows
synced_has g journal disk rows same fewer has = record {
  bytes = has.bytes;
  told = same ∙ has.told;
  are = has.are;
  stands = record {
    header = has.stands.header;
    rows = has.stands.rows;
    numbered = has.stands.numbered;
    ends = λ c is. has.stands.ends c (fewer c is);
    marks = λ c is. has.stands.marks c (fewer c is);
    hung = has.stands.hung;
  };
}

-- once a snapshot of the rows is laid and stable the mark may be set
pub markable : {D : Type 0} (g : disk.Ghosts D) (journal : Journal D) (rows : List (List ℕ))
    (has : HasRows g journal rows) → journal.hanging ≡ false → journal.marked ≡ false
    → Only has.bytes (g.image journal.disk) → SnapshotAgrees rows has.bytes
    → HasRows g (record journal { marked = true }) rows
markable g journal rows has calm quiet only agrees =
    let flat = stands_at journal.count journal.count journal.hanging false journal.marked false
    has.bytes (g.image journal.disk) refl calm quiet has.stands in
    record {
      bytes = has.bytes;
      told = has.told;
      are = has.are;
      stands = stands_at journal.count journal.count false journal.hanging true true has.bytes
          (g.image journal.disk) refl (sym calm) refl
          (markable_stands journal.count has.bytes (g.image journal.disk) flat only
          (subst (λ (rs : List (List ℕ)). SnapshotAgrees rs has.bytes) (sym has.are) agrees));
    }
