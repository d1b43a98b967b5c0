-- What images with a closed gate or any gate behind the rows recover, and what a torn write makes of
-- them.
use Rattle.std.proofs.Common.{◌≡◌, ◌≢◌, ◌⊎◌, inl, inr, ⊎_elim, ℕ, suc, ◌+◌, ◌-◌, ◌*◌, ◌<◌, ◌≤◌, Bool, true, false, List, [], ◌∷◌, ◌++◌, length, get_or, take, drop, sym, ◌∙◌, ap, subst, arith, length-append, length-drop}
use Rattle.std.proofs.lemmas.List.{get_or-drop, drop-drop, drop_more}
use Rattle.std.proofs.lemmas.Bool.{cases_eq, cases_lt}
use Rattle.disk_core.specs.Disk.{Torn}
use Rattle.book_snapshot.specs.declared.layout.TheConstants.{MARK, ROW_BYTES, OPEN}
use Rattle.book_snapshot.specs.DenseRows.{IsRow, AreRows}
use Rattle.book_journal.specs.Rows.{HasHeader, Recovers, SnapshotAgrees, starts_open, open_rows, rows_of, gate_behind, row_behind, mark_of}
use Rattle.book_journal.specs.Journal.{IsClosedAs, IsHungAs, MarkedAs}
use Rattle.book_journal.proofs.OpenRows.{same_take, open_by, shut_by_gate, shut_by_cut, rows_same, rows_stop, rows_more}

-- the bytes before the gate behind the rows are enough for the header and the rows
pub header_same : (b c : List ℕ) → HasHeader b → ROW_BYTES ≤ length c
    → ((k : ℕ) → k < ROW_BYTES → k ≢ MARK → get_or c k 0 ≡ get_or b k 0) → HasHeader c
header_same b c header long same =
    record { long = long; same = λ k lt other. same k lt other ∙ header.same k lt other }

pub rows_kept : (count : ℕ) (b c : List ℕ) → gate_behind count ≤ length c
    → ((k : ℕ) → k < gate_behind count → k ≢ MARK → get_or c k 0 ≡ get_or b k 0)
    → length (rows_of count b) ≡ count → rows_of count c ≡ rows_of count b
rows_kept count b c long same counts =
    rows_same count (drop ROW_BYTES b) (drop ROW_BYTES c) (omega (arith, length-drop ROW_BYTES c))
    (λ k lt.
    let beyond : ROW_BYTES + k ≢ MARK = omega arith in
    get_or-drop ROW_BYTES c k 0 ∙ same (ROW_BYTES + k) (omega arith) beyond
    ∙ sym (get_or-drop ROW_BYTES b k 0)) counts

pub behind : (count : ℕ) (c : List ℕ)
    → drop (ROW_BYTES * count) (drop ROW_BYTES c) ≡ drop (gate_behind count) c
behind count c = let sum : ROW_BYTES + ROW_BYTES * count ≡ gate_behind count = omega arith in
    drop-drop (ROW_BYTES * count) ROW_BYTES c ∙ ap (λ (k : ℕ). drop k c) sum

gate_of : (count : ℕ) (c : List ℕ)
    → get_or (drop (gate_behind count) c) 0 0 ≡ get_or c (gate_behind count) 0
gate_of count c = let sum : gate_behind count + 0 ≡ gate_behind count = omega arith in
    get_or-drop (gate_behind count) c 0 0 ∙ ap (λ (k : ℕ). get_or c k 0) sum

pub shut_behind : (count : ℕ) (c : List ℕ) → get_or c (gate_behind count) 0 ≢ OPEN
    → starts_open (drop (gate_behind count) c) ≡ false
shut_behind count c gate = shut_by_gate (drop (gate_behind count) c)
    (λ is. gate (sym (gate_of count c) ∙ is))

pub cut_behind : (count : ℕ) (c : List ℕ) → length c < gate_behind count + ROW_BYTES
    → starts_open (drop (gate_behind count) c) ≡ false
cut_behind count c short = shut_by_cut (drop (gate_behind count) c)
    (omega (arith, length-drop (gate_behind count) c))

pub open_behind : (count : ℕ) (c : List ℕ) → gate_behind count + ROW_BYTES ≤ length c
    → get_or c (gate_behind count) 0 ≡ OPEN → starts_open (drop (gate_behind count) c) ≡ true
open_behind count c long gate =
    open_by (drop (gate_behind count) c) (omega (arith, length-drop (gate_behind count) c))
    (gate_of count c ∙ gate)

as_slots : (count : ℕ) (c : List ℕ) (is : Bool) → starts_open (drop (gate_behind count) c) ≡ is
    → starts_open (drop (ROW_BYTES * count) (drop ROW_BYTES c)) ≡ is
as_slots count c is at_gate = subst (λ (l : List ℕ). starts_open l ≡ is) (sym (behind count c)) at_gate

-- one row more, with the next number
pub numbered_more : (first : ℕ) (rows : List (List ℕ)) (row : List ℕ) → AreRows ROW_BYTES first rows
    → IsRow ROW_BYTES (first + length rows) row → AreRows ROW_BYTES first (rows ++ row ∷ [])
numbered_more first [] row are is = let at_first : first + 0 ≡ first = omega arith in
    (subst (λ (n : ℕ). IsRow ROW_BYTES n row) at_first is, tt)
numbered_more first (other ∷ rows) row are is =
    let next : first + length (other ∷ rows) ≡ first + 1 + length rows = omega arith in
    (are.0, numbered_more (first + 1) rows row are.1 (subst (λ (n : ℕ). IsRow ROW_BYTES n row) next is))

-- a mark that isn't 0 stands for the rows
pub mark_agrees : (marked : Bool) (rows : List (List ℕ)) (size : ℕ) (c : List ℕ)
    → MarkedAs marked rows size c → mark_of c ≢ 0 → SnapshotAgrees rows c
mark_agrees true rows size c is set = is.1
mark_agrees false rows size c is set = absurd (set is)

pub no_mark : (rows : List (List ℕ)) (c : List ℕ) → mark_of c ≡ 0 → mark_of c ≢ 0 → SnapshotAgrees rows c
no_mark rows c is set = absurd (set is)

-- an image that ends its rows recovers them
pub recovers_stop : (count : ℕ) (b c : List ℕ) → HasHeader b → length (rows_of count b) ≡ count
    → AreRows ROW_BYTES 1 (rows_of count b) → gate_behind count ≤ length c
    → ((k : ℕ) → k < gate_behind count → k ≢ MARK → get_or c k 0 ≡ get_or b k 0)
    → starts_open (drop (gate_behind count) c) ≡ false
    → (mark_of c ≢ 0 → SnapshotAgrees (rows_of count b) c) → Recovers c (rows_of count b)
recovers_stop count b c header counts numbered long same shut mark =
    let rows = rows_kept count b c long same counts in
    let stops : open_rows (length c) (drop ROW_BYTES c) ≡ rows_of count c =
    rows_stop count (length c) (drop ROW_BYTES c) (ap length rows ∙ counts)
    (as_slots count c false shut) (omega arith) in
    inl record {
      header = header_same b c header (omega arith) (λ k lt other. same k (omega arith) other);
      slots = sym (stops ∙ rows);
      numbered = numbered;
      snapshot = mark;
    }

pub recovers_closed : (count : ℕ) (b c : List ℕ) → HasHeader b → length (rows_of count b) ≡ count
    → AreRows ROW_BYTES 1 (rows_of count b) → (mark_of c ≢ 0 → SnapshotAgrees (rows_of count b) c)
    → IsClosedAs count b c → Recovers c (rows_of count b)
recovers_closed count b c header counts numbered mark is = let long = is.long in
    recovers_stop count b c header counts numbered (omega arith) is.same
    (shut_behind count c is.gate) mark

-- the bytes behind the gate of a hanging journal are those that are read
row_bytes : (count : ℕ) (b c : List ℕ) → gate_behind (count + 1) ≤ length b → IsHungAs count b c
    → take (ROW_BYTES - 1) (drop (gate_behind count + 1) c)
    ≡ take (ROW_BYTES - 1) (drop (gate_behind count + 1) b)
row_bytes count b c longer is =
    let long = is.long in
    let gate = gate_behind count in
    same_take (ROW_BYTES - 1) (drop (gate + 1) c) (drop (gate + 1) b)
    (omega (arith, length-drop (gate + 1) c)) (omega (arith, length-drop (gate + 1) b)) (λ k lt.
    let below : gate + 1 + k < gate_behind (count + 1) = omega arith in
    let other : gate + 1 + k ≢ gate = omega arith in
    let beyond : gate + 1 + k ≢ MARK = omega arith in
    get_or-drop (gate + 1) c k 0 ∙ is.same (gate + 1 + k) below other beyond
    ∙ sym (get_or-drop (gate + 1) b k 0))

pub row_kept : (count : ℕ) (b c : List ℕ) → gate_behind (count + 1) ≤ length b → IsHungAs count b c
    → row_behind count c ≡ row_behind count b
row_kept count b c longer is = ap (λ (l : List ℕ). OPEN ∷ l) (row_bytes count b c longer is)

-- behind an open gate they are a row
row_open : (count : ℕ) (b c : List ℕ) → gate_behind (count + 1) ≤ length b → IsHungAs count b c
    → get_or c (gate_behind count) 0 ≡ OPEN
    → take ROW_BYTES (drop (ROW_BYTES * count) (drop ROW_BYTES c)) ≡ row_behind count b
row_open count b c longer is gate =
    let long = is.long in
    let place = gate_behind count in
    let split : drop place c ≡ get_or c place 0 ∷ drop (place + 1) c =
    drop_more c place 0 (omega arith) in
    ap (λ (l : List ℕ). take ROW_BYTES l) (behind count c)
    ∙ ap (λ (l : List ℕ). take ROW_BYTES l) split
    ∙ ap (λ (x : ℕ). x ∷ take (ROW_BYTES - 1) (drop (place + 1) c)) gate
    ∙ row_kept count b c longer is

pub rows_opened : (count : ℕ) (b c : List ℕ) → gate_behind (count + 1) ≤ length b
    → length (rows_of count b) ≡ count → IsHungAs count b c → get_or c (gate_behind count) 0 ≡ OPEN
    → rows_of (count + 1) c ≡ rows_of count b ++ row_behind count b ∷ []
rows_opened count b c longer counts is gate =
    let long = is.long in
    let rows = rows_kept count b c (omega arith)
    (λ k lt other. is.same k (omega arith) (omega arith) other) counts in
    let more : rows_of (suc count) c ≡ rows_of count c
    ++ take ROW_BYTES (drop (ROW_BYTES * count) (drop ROW_BYTES c)) ∷ [] =
    rows_more count (drop ROW_BYTES c) (ap length rows ∙ counts)
    (as_slots count c true (open_behind count c (omega arith) gate)) in
    let next : count + 1 ≡ suc count = omega arith in
    ap (λ (k : ℕ). rows_of k c) next ∙ more
    ∙ ap (λ (l : List (List ℕ)). l
    ++ take ROW_BYTES (drop (ROW_BYTES * count) (drop ROW_BYTES c)) ∷ []) rows
    ∙ ap (λ (l : List ℕ). rows_of count b ++ l ∷ []) (row_open count b c longer is gate)

-- an image of a hanging journal recovers its rows, or these and the one that hangs
pub recovers_hung : (count : ℕ) (b c : List ℕ) → HasHeader b → length (rows_of count b) ≡ count
    → AreRows ROW_BYTES 1 (rows_of count b) → IsRow ROW_BYTES (count + 1) (row_behind count b)
    → mark_of c ≡ 0 → gate_behind (count + 1) ≤ length b → IsHungAs count b c
    → Recovers c (rows_of count b) ⊎ Recovers c (rows_of count b ++ row_behind count b ∷ [])
recovers_hung count b c header counts numbered row mark longer is =
    let long = is.long in
    elim (cases_eq (get_or c (gate_behind count) 0) OPEN) [
      | inr shut ↦
          inl (recovers_stop count b c header counts numbered (omega arith)
          (λ k lt other. is.same k (omega arith) (omega arith) other) (shut_behind count c shut)
          (no_mark (rows_of count b) c mark))
      | inl gate ↦
          let rows = rows_opened count b c longer counts is gate in
          let counts_more : length (rows_of (count + 1) c) ≡ count + 1 = ap length rows
          ∙ length-append (rows_of count b) (row_behind count b ∷ [])
          ∙ ap (λ (k : ℕ). k + 1) counts in
          let stops : open_rows (length c) (drop ROW_BYTES c) ≡ rows_of (count + 1) c =
          rows_stop (count + 1) (length c) (drop ROW_BYTES c) counts_more
          (as_slots (count + 1) c false (shut_behind (count + 1) c is.gate)) (omega arith) in
          let number : count + 1 ≡ 1 + length (rows_of count b) = omega (arith, counts) in
          inr (inl record {
            header = header_same b c header (omega arith)
                (λ k lt other. is.same k (omega arith) (omega arith) other);
            slots = sym (stops ∙ rows);
            numbered = numbered_more 1 (rows_of count b) (row_behind count b) numbered
                (subst (λ (n : ℕ). IsRow ROW_BYTES n (row_behind count b)) number row);
            snapshot = no_mark (rows_of count b ++ row_behind count b ∷ []) c mark;
          })
    ]

-- a torn write behind the gate leaves it closed
pub torn_closed : (count n most : ℕ) (b c e : List ℕ) → IsClosedAs count b c
    → Torn (gate_behind count + 1) n most c e → IsClosedAs count b e
torn_closed count n most b c e is torn =
    let long = is.long in
    let longer = torn.no_shorter in
    record {
      long = omega arith;
      same = λ k lt other. torn.outside k (omega arith) (inl (omega arith)) ∙ is.same k lt other;
      gate = λ opened. is.gate (sym (torn.outside (gate_behind count) long (inl (omega arith)))
          ∙ opened);
    }

away : (k gate : ℕ) → k ≢ gate → (k < gate) ⊎ (gate + 1 ≤ k)
away k gate other = ⊎_elim (λ lt. inl lt) (λ le. inr (omega arith)) (cases_lt k gate)

-- a torn write of the gate leaves all else
pub torn_hung : (count most : ℕ) (b c e : List ℕ) → IsHungAs count b c
    → Torn (gate_behind count) 1 most c e → IsHungAs count b e
torn_hung count most b c e is torn =
    let long = is.long in
    let longer = torn.no_shorter in
    record {
      long = omega arith;
      same = λ k lt other beyond. torn.outside k (omega arith) (away k (gate_behind count) other)
          ∙ is.same k lt other beyond;
      gate = λ opened. is.gate
          (sym (torn.outside (gate_behind (count + 1)) long (inr (omega arith))) ∙ opened);
    }

-- and a torn write of the mark
pub torn_mark : (count most : ℕ) (b c e : List ℕ) → IsClosedAs count b c → Torn MARK 1 most c e
    → IsClosedAs count b e
torn_mark count most b c e is torn =
    let long = is.long in
    let longer = torn.no_shorter in
    record {
      long = omega arith;
      same = λ k lt other. torn.outside k (omega arith) (away k MARK other) ∙ is.same k lt other;
      gate = λ opened. is.gate (sym (torn.outside (gate_behind count) long (inr (omega arith)))
          ∙ opened);
    }

-- a torn write behind the header leaves the mark
pub mark_kept : (place n most : ℕ) (c e : List ℕ) → ROW_BYTES ≤ place → ROW_BYTES ≤ length c
    → Torn place n most c e → mark_of e ≡ mark_of c
mark_kept place n most c e beyond long torn =
    torn.outside MARK (omega (arith, long)) (inl (omega (arith, beyond)))

-- what is read is one of the images, so each image may be compared with it
pub closed_as_read : (count : ℕ) (b now c : List ℕ) → IsClosedAs count b now → IsClosedAs count b c
    → IsClosedAs count now c
closed_as_read count b now c is_now is =
    record {
      long = is.long;
      same = λ k lt other. is.same k lt other ∙ sym (is_now.same k lt other);
      gate = is.gate;
    }

pub hung_as_read : (count : ℕ) (b now c : List ℕ) → IsHungAs count b now → IsHungAs count b c
    → IsHungAs count now c
hung_as_read count b now c is_now is =
    record {
      long = is.long;
      same = λ k lt other beyond. is.same k lt other beyond
          ∙ sym (is_now.same k lt other beyond);
      gate = is.gate;
    }
