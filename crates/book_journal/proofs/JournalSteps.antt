-- The steps of a journal: a row behind its closed gate, its gate, and its mark.
use Rattle.std.proofs.Common.{◌≡◌, ◌≢◌, ◌⊎◌, ℕ, ◌+◌, ◌-◌, ◌<◌, ◌≤◌, Bool, true, false, Some, Result, List, [], ◌∷◌, ◌++◌, length, get_or, take, drop, refl, sym, ◌∙◌, ap, subst, arith, length-append, append_assoc}
use Rattle.std.proofs.lemmas.List.{take_at, drop_at, length-take-le, get_or_at}
use Rattle.disk_core.specs.Disk.{overwritten, Only}
use Rattle.disk_core.specs.Devices.{LeavesOnly}
use Rattle.disk_core.specs.declared.disk.Disk as disk
use Rattle.disk_core.specs.Tears.{length-overwritten}
use Rattle.book_snapshot.specs.declared.layout.TheConstants.{ROW_BYTES, OPEN}
use Rattle.book_snapshot.specs.DenseRows.{IsRow, AreRows}
use Rattle.book_journal.specs.declared.layout.TheConstants.{CLOSED}
use Rattle.book_journal.specs.Rows.{HasHeader, Recovers, rows_of, gate_behind, row_behind, mark_of}
use Rattle.book_journal.specs.Journal.{IsClosedAs, IsHungAs, MarkedAs, StandsAs}
use Rattle.book_journal.specs.Settles.{TornFrom, Settles}
use Rattle.book_journal.proofs.Gates.{header_same, rows_kept, row_kept, rows_opened, recovers_closed, recovers_hung, torn_closed, torn_hung, mark_kept, no_mark, numbered_more, closed_as_read, hung_as_read}
use Rattle.book_journal.proofs.ByteWrites.{written_at}
use Rattle.book_journal.proofs.Moments.{started, goes_on}

no_true : {A : Type 0} → false ≡ true → A
no_true is = absurd cc

-- facts of each image stand for what is read
pub closed_stands : (count : ℕ) (marked : Bool) (b now : List ℕ) (image : List ℕ → Type 0)
    → HasHeader b → length (rows_of count b) ≡ count → AreRows ROW_BYTES 1 (rows_of count b)
    → image now → ((c : List ℕ) → image c → IsClosedAs count b c)
    → ((c : List ℕ) → image c → MarkedAs marked (rows_of count b) (length now) c)
    → StandsAs count false marked now image
closed_stands count marked b now image header counts numbered is all marks =
    let here = all now is in
    let long = here.long in
    let rows : rows_of count now ≡ rows_of count b =
    rows_kept count b now (omega arith) here.same counts in
    record {
      header = header_same b now header (omega arith) (λ k lt other. here.same k (omega arith) other);
      rows = ap length rows ∙ counts;
      numbered = subst (λ (rs : List (List ℕ)). AreRows ROW_BYTES 1 rs) (sym rows) numbered;
      ends = λ c at_c. closed_as_read count b now c here (all c at_c);
      marks = λ c at_c. subst (λ (rs : List (List ℕ)). MarkedAs marked rs (length now) c) (sym rows)
          (marks c at_c);
      hung = λ hangs. no_true hangs;
    }

pub hung_stands : (count : ℕ) (b now : List ℕ) (image : List ℕ → Type 0) → HasHeader b
    → length (rows_of count b) ≡ count → AreRows ROW_BYTES 1 (rows_of count b)
    → IsRow ROW_BYTES (count + 1) (row_behind count b) → gate_behind (count + 1) ≤ length b
    → image now → ((c : List ℕ) → image c → IsHungAs count b c)
    → ((c : List ℕ) → image c → mark_of c ≡ 0) → StandsAs count true false now image
hung_stands count b now image header counts numbered row longer is all marks =
    let here = all now is in
    let long = here.long in
    let rows : rows_of count now ≡ rows_of count b =
    rows_kept count b now (omega arith)
    (λ k lt other. here.same k (omega arith) (omega arith) other) counts in
    record {
      header = header_same b now header (omega arith)
          (λ k lt other. here.same k (omega arith) (omega arith) other);
      rows = ap length rows ∙ counts;
      numbered = subst (λ (rs : List (List ℕ)). AreRows ROW_BYTES 1 rs) (sym rows) numbered;
      ends = λ c at_c. hung_as_read count b now c here (all c at_c);
      marks = marks;
      hung = λ hangs. record {
        row =
            subst (λ (r : List ℕ). IsRow ROW_BYTES (count + 1) r)
            (sym (row_kept count b now longer here)) row;
        unmarked = refl;
      };
    }

module _ {D : Type 0} (g : disk.Ghosts D)
    (reads_image : (d : D) (bytes : List ℕ) → g.reads d ≡ Some bytes → g.image d bytes)
    (only_now : (d : D) (c : List ℕ) → g.since d (g.time d) c → g.image d c) (count : ℕ) (old : D)
    (b : List ℕ) (told : g.reads old ≡ Some b) where
  -- a row that is written behind its closed gate, whatever the write answered
  module _ (stands : StandsAs count false false b (g.image old)) where
    pub recovers_now : (c : List ℕ) → g.image old c → Recovers c (rows_of count b)
    recovers_now c is = recovers_closed count b c stands.header stands.rows stands.numbered
        (no_mark (rows_of count b) c (stands.marks c is)) (stands.ends c is)

    pub within_first : gate_behind count + 1 ≤ length b
    within_first = let long = (stands.ends b (reads_image old b told)).long in omega arith

    module _ {T E : Type 0} (bytes : List ℕ) (result : Result T E) (new : D)
        (s : Settles g (gate_behind count + 1) bytes result b old new) where
      first_closed : (c : List ℕ) → TornFrom (g.image old) (gate_behind count + 1) (length bytes)
          (length s.now) c → IsClosedAs count b c
      first_closed c torn = torn_closed count (length bytes) (length s.now) b torn.0 c
          (stands.ends torn.0 torn.1) torn.2

      first_mark : (c : List ℕ) → TornFrom (g.image old) (gate_behind count + 1) (length bytes)
          (length s.now) c → mark_of c ≡ 0
      first_mark c torn =
          let long = (stands.ends torn.0 torn.1).long in
          mark_kept (gate_behind count + 1) (length bytes) (length s.now) torn.0 c (omega arith)
          (omega arith) torn.2 ∙ stands.marks torn.0 torn.1

      first_here : IsClosedAs count b s.now
      first_here = first_closed s.now (s.images s.now (reads_image new s.now s.told))

      pub first_stands : StandsAs count false false s.now (g.image new)
      first_stands = closed_stands count false b s.now
          (g.image new) stands.header stands.rows stands.numbered (reads_image new s.now s.told)
          (λ c is. first_closed c (s.images c is)) (λ c is. first_mark c (s.images c is))

      pub first_rows : rows_of count s.now ≡ rows_of count b
      first_rows = let long = first_here.long in
          rows_kept count b s.now (omega arith) first_here.same stands.rows

      pub first_moments : LeavesOnly g old new (λ c. Recovers c (rows_of count b))
      first_moments =
          goes_on g old old new _ _
          (started g old _ (λ c was. recovers_now c (only_now old c was)))
          s.moments
          (λ c torn. recovers_closed count b c stands.header stands.rows stands.numbered
          (no_mark (rows_of count b) c (first_mark c torn)) (first_closed c torn))

    -- the row and the next gate were written
    module _ {T E : Type 0} (tail : List ℕ) (size : length tail ≡ ROW_BYTES - 1)
        (is_row : IsRow ROW_BYTES (count + 1) (OPEN ∷ tail)) (result : Result T E) (new : D)
        (s : Settles g (gate_behind count + 1) (tail ++ CLOSED ∷ []) result b old new)
        (done : (s.now ≡ overwritten b (gate_behind count + 1) (tail ++ CLOSED ∷ []))
        × Only s.now (g.image new)) where
      whole : length (tail ++ CLOSED ∷ []) ≡ ROW_BYTES
      whole = omega (arith, size, length-append tail (CLOSED ∷ []))

      now_long : gate_behind (count + 1) < length s.now
      now_long = omega (
        arith,
        within_first,
        whole,
        ap length done.0,
        length-overwritten b (gate_behind count + 1) (tail ++ CLOSED ∷ []),
      )

      next_gate : get_or s.now (gate_behind (count + 1)) 0 ≡ CLOSED
      next_gate =
          ap (λ (l : List ℕ). get_or l (gate_behind (count + 1)) 0) done.0
          ∙ written_at b (gate_behind count + 1) (tail ++ CLOSED ∷ []) (ROW_BYTES - 1)
          (gate_behind (count + 1)) within_first (omega (arith, whole)) (omega arith)
          ∙ get_or_at tail CLOSED [] 0 (ROW_BYTES - 1) size

      pub staged_row : row_behind count s.now ≡ OPEN ∷ tail
      staged_row =
          let place = gate_behind count + 1 in
          let bytes = tail ++ CLOSED ∷ [] in
          let rest = drop (place + length bytes) b in
          let front : length (take place b) ≡ place = length-take-le place b within_first in
          let there : drop place (overwritten b place bytes) ≡ bytes ++ rest =
          ap (λ (l : List ℕ). drop place l) (append_assoc (take place b) bytes rest)
          ∙ drop_at (take place b) (bytes ++ rest) place front in
          ap (λ (l : List ℕ). OPEN ∷ take (ROW_BYTES - 1) (drop place l)) done.0
          ∙ ap (λ (l : List ℕ). OPEN ∷ take (ROW_BYTES - 1) l)
          (there ∙ append_assoc tail (CLOSED ∷ []) rest)
          ∙ ap (λ (l : List ℕ). OPEN ∷ l) (take_at tail (CLOSED ∷ rest) (ROW_BYTES - 1) size)

      pub staged_stands : StandsAs count true false s.now (g.image new)
      staged_stands =
          let first = first_stands (tail ++ CLOSED ∷ []) result new s in
          record {
            header = first.header;
            rows = first.rows;
            numbered = first.numbered;
            ends = λ c is. subst (λ (l : List ℕ). IsHungAs count s.now l) (sym (done.1 c is)) record {
              long = now_long;
              same = λ k lt other beyond. refl;
              gate =
                  λ opened. absurd (omega (arith, next_gate, opened));
            };
            marks = first.marks;
            hung = λ hangs. record {
              row =
                  subst (λ (r : List ℕ). IsRow ROW_BYTES (count + 1) r) (sym staged_row) is_row;
              unmarked = refl;
            };
          }

  -- the gate of a hanging journal, whatever the write answered
  module _ (stands : StandsAs count true false b (g.image old)) where
    pub long_hung : gate_behind (count + 1) < length b
    long_hung = (stands.ends b (reads_image old b told)).long

    hung_row : IsRow ROW_BYTES (count + 1) (row_behind count b)
    hung_row = (stands.hung refl).row

    pub recovers_either : (c : List ℕ) → mark_of c ≡ 0 → IsHungAs count b c
        → Recovers c (rows_of count b) ⊎ Recovers c (rows_of count b ++ row_behind count b ∷ [])
    recovers_either c mark is = let long = long_hung in
        recovers_hung count b c stands.header stands.rows stands.numbered hung_row mark
        (omega arith) is

    pub either_now : (c : List ℕ) → g.image old c → Recovers c (rows_of count b)
        ⊎ Recovers c (rows_of count b ++ row_behind count b ∷ [])
    either_now c is = recovers_either c (stands.marks c is) (stands.ends c is)

    module _ {T E : Type 0} (gate : ℕ) (result : Result T E) (new : D)
        (s : Settles g (gate_behind count) (gate ∷ []) result b old new) where
      gate_hung : (c : List ℕ) → TornFrom (g.image old) (gate_behind count) 1 (length s.now) c
          → IsHungAs count b c
      gate_hung c torn = torn_hung count (length s.now) b torn.0 c (stands.ends torn.0 torn.1) torn.2

      gate_mark : (c : List ℕ) → TornFrom (g.image old) (gate_behind count) 1 (length s.now) c
          → mark_of c ≡ 0
      gate_mark c torn =
          let long = (stands.ends torn.0 torn.1).long in
          mark_kept (gate_behind count) 1 (length s.now) torn.0 c (omega arith) (omega arith) torn.2
          ∙ stands.marks torn.0 torn.1

      gate_here : IsHungAs count b s.now
      gate_here = gate_hung s.now (s.images s.now (reads_image new s.now s.told))

      pub gate_stands : StandsAs count true false s.now (g.image new)
      gate_stands = let long = long_hung in
          hung_stands count b s.now (g.image new) stands.header stands.rows stands.numbered hung_row
          (omega arith) (reads_image new s.now s.told) (λ c is. gate_hung c (s.images c is))
          (λ c is. gate_mark c (s.images c is))

      pub gate_rows : rows_of count s.now ≡ rows_of count b
      gate_rows = let long = gate_here.long in
          rows_kept count b s.now (omega arith)
          (λ k lt other. gate_here.same k (omega arith) (omega arith) other) stands.rows

      pub gate_row : row_behind count s.now ≡ row_behind count b
      gate_row = let long = long_hung in row_kept count b s.now (omega arith) gate_here

      pub gate_moments : LeavesOnly g old new
          (λ c. Recovers c (rows_of count b)
          ⊎ Recovers c (rows_of count b ++ row_behind count b ∷ []))
      gate_moments =
          goes_on g old old new _ _
          (started g old _ (λ c was. either_now c (only_now old c was)))
          s.moments
          (λ c torn. recovers_either c (gate_mark c torn) (gate_hung c torn))

      -- the gate was written
      module _ (done : (s.now ≡ overwritten b (gate_behind count) (gate ∷ []))
          × Only s.now (g.image new)) where
        pub gate_is : get_or s.now (gate_behind count) 0 ≡ gate
        gate_is = let long = long_hung in ap (λ (l : List ℕ). get_or l (gate_behind count) 0) done.0
            ∙ written_at b (gate_behind count) (gate ∷ []) 0 (gate_behind count) (omega arith)
            (omega arith) (omega arith)

        pub closed_gate_stands : gate ≢ OPEN → StandsAs count false false s.now (g.image new)
        closed_gate_stands shut =
            let here = gate_here in
            let long = here.long in
            closed_stands count false b s.now
            (g.image new) stands.header stands.rows stands.numbered
            (reads_image new s.now s.told) (λ c is.
            let as_now : s.now ≡ c = sym (done.1 c is) in
            subst (λ (l : List ℕ). IsClosedAs count b l) as_now record {
              long = omega arith;
              same = λ k lt other. here.same k (omega arith)
                  (omega arith) other;
              gate = λ opened. shut (sym gate_is ∙ opened);
            })
            (gate_stands).marks

        pub open_gate_rows : gate ≡ OPEN
            → rows_of (count + 1) s.now ≡ rows_of count b ++ row_behind count b ∷ []
        open_gate_rows opened = let long = long_hung in
            rows_opened count b s.now (omega arith) stands.rows gate_here (gate_is ∙ opened)

        pub open_gate_stands : gate ≡ OPEN → StandsAs (count + 1) false false s.now (g.image new)
        open_gate_stands opened =
            let here = gate_here in
            let long = here.long in
            let rows = open_gate_rows opened in
            let number : count + 1 ≡ 1 + length (rows_of count b) = omega (arith, stands.rows) in
            record {
              header = (gate_stands).header;
              rows = ap length rows ∙ length-append (rows_of count b) (row_behind count b ∷ [])
                  ∙ ap (λ (k : ℕ). k + 1) stands.rows;
              numbered = subst (λ (rs : List (List ℕ)). AreRows ROW_BYTES 1 rs) (sym rows)
                  (numbered_more 1 (rows_of count b) (row_behind count b) stands.numbered
                  (subst (λ (n : ℕ). IsRow ROW_BYTES n (row_behind count b)) number hung_row));
              ends = λ c is. subst (λ (l : List ℕ). IsClosedAs (count + 1) s.now l)
                  (sym (done.1 c is)) record {
                    long = long;
                    same = λ k lt other. refl;
                    gate =
                        here.gate;
                  };
              marks = (gate_stands).marks;
              hung = λ hangs. no_true hangs;
            }

-- the same call, with its place and bytes under other names
pub settles_at : {D T E : Type 0} (g : disk.Ghosts D) (place place' : ℕ) (bytes bytes' : List ℕ)
    (result : Result T E) (b : List ℕ) (old new : D) → place ≡ place' → bytes ≡ bytes'
    → Settles g place bytes result b old new → Settles g place' bytes' result b old new
settles_at g place place' bytes bytes' result b old new at is s =
    subst (λ (p : ℕ). Settles g p bytes' result b old new) at
    (subst (λ (l : List ℕ). Settles g place l result b old new) is s)
