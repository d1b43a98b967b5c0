-- The mark of a journal, and a snapshot behind its closed gate.
use Rattle.std.proofs.Common.{◌≡◌, inr, ⊎_elim, ℕ, ◌+◌, ◌-◌, ◌*◌, ◌<◌, ◌≤◌, true, false, Some, Result, List, [], ◌∷◌, ◌++◌, length, get_or, take, drop, replicate, sym, ◌∙◌, ap, subst, arith, length-append, length-drop, append_assoc}
use Rattle.std.proofs.lemmas.List.{take_at, drop_at, length-take-le, same_lists, drop-drop, get_or-drop, get_or-take, get_or_default, get_or_append_left, take_all}
use Rattle.std.proofs.lemmas.Bool.{cases_lt}
use Rattle.disk_core.specs.Disk.{overwritten, Only, Torn}
use Rattle.disk_core.specs.Devices.{LeavesOnly}
use Rattle.disk_core.specs.declared.disk.Disk as disk
use Rattle.book_snapshot.specs.declared.layout.TheConstants.{MARK, ROW_BYTES, OPEN, HEAD, TAIL}
use Rattle.book_snapshot.specs.Layout.{snapshot_place, snapshot_end, blocks_for}
use Rattle.book_snapshot.specs.DenseRows.{content}
use Rattle.book_snapshot.specs.Blocks.{IsSnapshotSize, EndsWithSnapshot, snapshot, snapshot_content, block_content, content_blocks, end_block}
use Rattle.book_snapshot.specs.BlockLaws.{length-content_blocks, length-end_block, content_back, blocks_enough, one_size}
use Rattle.book_journal.specs.declared.layout.TheConstants.{MARKED}
use Rattle.book_journal.specs.Rows.{HasHeader, Recovers, SnapshotAgrees, rows_of, gate_behind, row_behind, mark_of}
use Rattle.book_journal.specs.Journal.{IsClosedAs, MarkedAs, StandsAs}
use Rattle.book_journal.specs.Settles.{TornFrom, Settles}
use Rattle.book_journal.specs.Laying.{KeptBefore, WritesBehind}
use Rattle.book_journal.specs.Marking.{behind_closed_gate, with_snapshot, HoldsSnapshot}
use Rattle.book_journal.proofs.Gates.{rows_kept, recovers_closed, torn_mark, no_mark}
use Rattle.book_journal.proofs.ByteWrites.{written_at, kept_below, kept_above, overwritten_end, overwritten_size}
use Rattle.book_journal.proofs.JournalSteps.{closed_stands}
use Rattle.book_journal.proofs.Moments.{started, goes_on}

-- what stands from a place on, where all from there on is the same
pub drop_same : (c d : List ℕ) (n : ℕ) → length c ≡ length d
    → ((k : ℕ) → n ≤ k → k < length d → get_or c k 0 ≡ get_or d k 0) → drop n c ≡ drop n d
drop_same c d n size same =
    same_lists (drop n c) (drop n d)
    (length-drop n c ∙ ap (λ (m : ℕ). m - n) size ∙ sym (length-drop n d)) (λ k other lt.
    let inside : n + k < length d = omega (arith, lt, size, length-drop n c) in
    get_or-drop n c k other ∙ get_or_default c (n + k) other 0 (omega (arith, inside, size))
    ∙ same (n + k) (omega arith) inside ∙ get_or_default d (n + k) 0 other inside
    ∙ sym (get_or-drop n d k other))

-- a snapshot is told by the length and by what stands behind the header
pub ends_same : (count size : ℕ) (c d : List ℕ) → length c ≡ length d
    → ((n : ℕ) → ROW_BYTES ≤ n → drop n c ≡ drop n d) → EndsWithSnapshot count size c
    → EndsWithSnapshot count size d
ends_same count size c d long same ends = record {
  size = ends.size;
  long = sym long ∙ ends.long;
  head = ap (λ (l : List ℕ). take ROW_BYTES l) (sym (same (snapshot_place count) (omega arith)))
      ∙ ends.head;
  tail = sym (same (snapshot_end count size - ROW_BYTES) (omega arith)) ∙ ends.tail;
}

pub content_same : (count size : ℕ) (c d : List ℕ) → ((n : ℕ) → ROW_BYTES ≤ n → drop n c ≡ drop n d)
    → snapshot_content count size c ≡ snapshot_content count size d
content_same count size c d same =
    ap (λ (l : List ℕ). take size (block_content (blocks_for size) l))
    (same (snapshot_place count + ROW_BYTES) (omega arith))

pub agrees_same : (rows : List (List ℕ)) (c d : List ℕ) → length c ≡ length d
    → ((n : ℕ) → ROW_BYTES ≤ n → drop n c ≡ drop n d) → SnapshotAgrees rows d
    → SnapshotAgrees rows c
agrees_same rows c d long same agrees count size ends =
    let is = agrees count size (ends_same count size c d long same ends) in
    (is.0, content_same count size c d same ∙ is.1)

-- a write of the mark, whatever it answered
module _ {D : Type 0} (g : disk.Ghosts D)
    (reads_image : (d : D) (bytes : List ℕ) → g.reads d ≡ Some bytes → g.image d bytes)
    (only_now : (d : D) (c : List ℕ) → g.since d (g.time d) c → g.image d c) (count : ℕ) (old : D)
    (b : List ℕ) (told : g.reads old ≡ Some b) where
  module _ (stands : StandsAs count false true b (g.image old)) where
    pub recovers_marked : (c : List ℕ) → g.image old c → Recovers c (rows_of count b)
    recovers_marked c is = recovers_closed count b c stands.header stands.rows stands.numbered
        (λ set. (stands.marks c is).1) (stands.ends c is)

    module _ {T E : Type 0} (byte : ℕ) (result : Result T E) (new : D)
        (s : Settles g MARK (byte ∷ []) result b old new) where
      now_size : length s.now ≡ length b
      now_size = let long = stands.header.long in
          omega (arith, s.torn.no_shorter, s.torn.no_longer, long)

      sign_closed : (c : List ℕ) → TornFrom (g.image old) MARK 1 (length s.now) c → IsClosedAs count b c
      sign_closed c torn = torn_mark count (length s.now) b torn.0 c (stands.ends torn.0 torn.1) torn.2

      sign_marks : (c : List ℕ) → TornFrom (g.image old) MARK 1 (length s.now) c
          → MarkedAs true (rows_of count b) (length s.now) c
      sign_marks c torn =
          let d = torn.0 in
          let was = stands.marks d torn.1 in
          let size : length c ≡ length d =
          omega (arith, torn.2.no_shorter, torn.2.no_longer, was.0, now_size) in (
            size ∙ was.0 ∙ sym now_size,
            agrees_same (rows_of count b) c d size
                (λ n beyond. drop_same c d n size
                (λ k from lt. torn.2.outside k lt (inr (omega (arith, beyond, from))))) was.1,
          )

      sign_here : IsClosedAs count b s.now
      sign_here = sign_closed s.now (s.images s.now (reads_image new s.now s.told))

      pub sign_stands : StandsAs count false true s.now (g.image new)
      sign_stands = closed_stands count true b s.now
          (g.image new) stands.header stands.rows stands.numbered (reads_image new s.now s.told)
          (λ c is. sign_closed c (s.images c is)) (λ c is. sign_marks c (s.images c is))

      pub sign_rows : rows_of count s.now ≡ rows_of count b
      sign_rows = let long = sign_here.long in
          rows_kept count b s.now (omega arith) sign_here.same stands.rows

      pub sign_moments : LeavesOnly g old new (λ c. Recovers c (rows_of count b))
      sign_moments =
          goes_on g old old new _ _
          (started g old _ (λ c was. recovers_marked c (only_now old c was)))
          s.moments
          (λ c torn. recovers_closed count b c stands.header stands.rows stands.numbered
          (λ set. (sign_marks c torn).1) (sign_closed c torn))

      -- and it was done
      pub sign_is : (s.now ≡ overwritten b MARK (byte ∷ [])) × Only s.now (g.image new)
          → (c : List ℕ) → g.image new c → mark_of c ≡ byte
      sign_is done c is =
          let long = stands.header.long in
          ap (λ (l : List ℕ). mark_of l) (done.1 c is ∙ done.0)
          ∙ written_at b MARK (byte ∷ []) 0 MARK (omega arith) (omega arith) (omega arith)

  -- writes behind the closed gate, whatever they answered
  module _ (stands : StandsAs count false false b (g.image old)) {T E : Type 0} (bytes : List ℕ)
      (result : Result T E) (new : D)
      (w : WritesBehind g (gate_behind count + 1) bytes result b old new) where
    laid_closed : (c : List ℕ) → KeptBefore (g.image old) (gate_behind count + 1) c
        → IsClosedAs count b c
    laid_closed c kept =
        let is = stands.ends kept.0 kept.1 in
        let long = is.long in
        record {
          long = omega (arith, kept.2, long);
          same = λ k lt other. kept.3 k (omega arith) (omega (arith, long, lt)) ∙ is.same k lt other;
          gate = λ opened. is.gate (sym (kept.3 (gate_behind count) (omega arith) long) ∙ opened);
        }

    laid_mark : (c : List ℕ) → KeptBefore (g.image old) (gate_behind count + 1) c → mark_of c ≡ 0
    laid_mark c kept =
        let long = (stands.ends kept.0 kept.1).long in
        kept.3 MARK (omega arith) (omega (arith, long)) ∙ stands.marks kept.0 kept.1

    laid_recovers : (c : List ℕ) → KeptBefore (g.image old) (gate_behind count + 1) c
        → Recovers c (rows_of count b)
    laid_recovers c kept = recovers_closed count b c stands.header stands.rows stands.numbered
        (no_mark (rows_of count b) c (laid_mark c kept)) (laid_closed c kept)

    laid_here : IsClosedAs count b w.now
    laid_here = laid_closed w.now (w.images w.now (reads_image new w.now w.told))

    pub laid_stands : StandsAs count false false w.now (g.image new)
    laid_stands = closed_stands count false b w.now
        (g.image new) stands.header stands.rows stands.numbered (reads_image new w.now w.told)
        (λ c is. laid_closed c (w.images c is)) (λ c is. laid_mark c (w.images c is))

    pub laid_rows : rows_of count w.now ≡ rows_of count b
    laid_rows = let long = laid_here.long in
        rows_kept count b w.now (omega arith) laid_here.same stands.rows

    pub laid_moments : LeavesOnly g old new (λ c. Recovers c (rows_of count b))
    laid_moments =
        goes_on g old old new _ _
        (started g old _ (λ c was. recovers_closed count b c stands.header stands.rows
        stands.numbered (no_mark (rows_of count b) c (stands.marks c (only_now old c was)))
        (stands.ends c (only_now old c was))))
        w.moments laid_recovers

-- a journal whose mark is 0 everywhere isn't marked
pub unmarked_stands : (count : ℕ) (now : List ℕ) (image : List ℕ → Type 0)
    → StandsAs count false true now image → ((c : List ℕ) → image c → mark_of c ≡ 0)
    → StandsAs count false false now image
unmarked_stands count now image stands marks = record {
  header = stands.header;
  rows = stands.rows;
  numbered = stands.numbered;
  ends = stands.ends;
  marks = marks;
  hung = λ hangs. absurd (no_hang hangs);
}
  where
    no_hang : false ≡ true → ⊥
    no_hang is = cc

-- where nothing else is left, and what is read agrees, the mark may be set
pub markable_stands : (count : ℕ) (now : List ℕ) (image : List ℕ → Type 0)
    → StandsAs count false false now image → Only now image → SnapshotAgrees (rows_of count now) now
    → StandsAs count false true now image
markable_stands count now image stands only agrees = record {
  header = stands.header;
  rows = stands.rows;
  numbered = stands.numbered;
  ends = stands.ends;
  marks = λ c is. (
    ap length (only c is),
    subst (λ (l : List ℕ). SnapshotAgrees (rows_of count now) l) (sym (only c is)) agrees,
  );
  hung = λ hangs. absurd (no_hang hangs);
}
  where
    no_hang : false ≡ true → ⊥
    no_hang is = cc

-- a snapshot that was laid
module _ (count : ℕ) (bytes b : List ℕ) (size_is : IsSnapshotSize count (length bytes))
    (long : gate_behind count < length b) where
  front_size : length (take (gate_behind count + 1) b ++ replicate (ROW_BYTES - 1) 0)
      ≡ snapshot_place count
  front_size = omega (
    arith,
    long,
    length-append (take (gate_behind count + 1) b) (replicate (ROW_BYTES - 1) 0),
    length-take-le (gate_behind count + 1) b (omega (arith, long)),
  )

  parts : with_snapshot count bytes b
      ≡ (take (gate_behind count + 1) b ++ replicate (ROW_BYTES - 1) 0)
      ++ (end_block HEAD count (length bytes) ++ content_blocks (blocks_for (length bytes)) bytes
      ++ end_block TAIL count (length bytes))
  parts = sym (append_assoc (take (gate_behind count + 1) b) (replicate (ROW_BYTES - 1) 0)
      (snapshot count bytes))

  blocks_size : length (content_blocks (blocks_for (length bytes)) bytes) ≡ ROW_BYTES
      * blocks_for (length bytes)
  blocks_size = length-content_blocks (blocks_for (length bytes)) bytes

  pub laid_size : length (with_snapshot count bytes b) ≡ snapshot_end count (length bytes)
  laid_size =
      let first = length-append (take (gate_behind count + 1) b ++ replicate (ROW_BYTES - 1) 0)
      (end_block HEAD count (length bytes) ++ content_blocks (blocks_for (length bytes)) bytes
      ++ end_block TAIL count (length bytes)) in
      let second = length-append (end_block HEAD count (length bytes)
      ++ content_blocks (blocks_for (length bytes)) bytes)
      (end_block TAIL count (length bytes)) in
      let third = length-append (end_block HEAD count (length bytes))
      (content_blocks (blocks_for (length bytes)) bytes) in
      omega (
        arith,
        ap length parts,
        first,
        second,
        third,
        front_size,
        blocks_size,
        length-end_block HEAD count (length bytes),
        length-end_block TAIL count (length bytes),
      )

  -- laid over everything behind the gate
  pub laid_all : length b ≤ snapshot_end count (length bytes)
      → overwritten b (gate_behind count + 1) (behind_closed_gate count bytes)
      ≡ with_snapshot count bytes b
  laid_all short =
      let all = length-append (take (gate_behind count + 1) b) (behind_closed_gate count bytes) in
      overwritten_end b (gate_behind count + 1) (behind_closed_gate count bytes)
      (omega (
        arith,
        all,
        laid_size,
        short,
        long,
        length-take-le (gate_behind count + 1) b (omega (arith, long)),
      ))

  from_place : drop (snapshot_place count) (with_snapshot count bytes b)
      ≡ end_block HEAD count (length bytes)
      ++ (content_blocks (blocks_for (length bytes)) bytes ++ end_block TAIL count (length bytes))
  from_place =
      ap (λ (l : List ℕ). drop (snapshot_place count) l) parts
      ∙ drop_at (take (gate_behind count + 1) b ++ replicate (ROW_BYTES - 1) 0)
      (end_block HEAD count (length bytes) ++ content_blocks (blocks_for (length bytes)) bytes
      ++ end_block TAIL count (length bytes)) (snapshot_place count) front_size
      ∙ append_assoc (end_block HEAD count (length bytes))
      (content_blocks (blocks_for (length bytes)) bytes) (end_block TAIL count (length bytes))

  from_content : drop (snapshot_place count + ROW_BYTES) (with_snapshot count bytes b)
      ≡ content_blocks (blocks_for (length bytes)) bytes ++ end_block TAIL count (length bytes)
  from_content =
      sym (drop-drop ROW_BYTES (snapshot_place count) (with_snapshot count bytes b))
      ∙ ap (λ (l : List ℕ). drop ROW_BYTES l) from_place
      ∙ drop_at (end_block HEAD count (length bytes))
      (content_blocks (blocks_for (length bytes)) bytes ++ end_block TAIL count (length bytes))
      ROW_BYTES (length-end_block HEAD count (length bytes))

  from_tail : drop (snapshot_end count (length bytes) - ROW_BYTES) (with_snapshot count bytes b)
      ≡ end_block TAIL count (length bytes)
  from_tail =
      let there : snapshot_place count + ROW_BYTES + ROW_BYTES * blocks_for (length bytes)
      ≡ snapshot_end count (length bytes) - ROW_BYTES = omega arith in
      ap (λ (n : ℕ). drop n (with_snapshot count bytes b)) (sym there)
      ∙ sym (drop-drop (ROW_BYTES * blocks_for (length bytes)) (snapshot_place count + ROW_BYTES)
      (with_snapshot count bytes b))
      ∙ ap (λ (l : List ℕ). drop (ROW_BYTES * blocks_for (length bytes)) l) from_content
      ∙ drop_at (content_blocks (blocks_for (length bytes)) bytes)
      (end_block TAIL count (length bytes)) (ROW_BYTES * blocks_for (length bytes)) blocks_size

  pub laid_ends : EndsWithSnapshot count (length bytes) (with_snapshot count bytes b)
  laid_ends = record {
    size = size_is;
    long = laid_size;
    head = ap (λ (l : List ℕ). take ROW_BYTES l) from_place
        ∙ take_at (end_block HEAD count (length bytes))
        (content_blocks (blocks_for (length bytes)) bytes ++ end_block TAIL count (length bytes))
        ROW_BYTES (length-end_block HEAD count (length bytes));
    tail = from_tail;
  }

  pub laid_content : snapshot_content count (length bytes) (with_snapshot count bytes b) ≡ bytes
  laid_content =
      ap (λ (l : List ℕ). take (length bytes) (block_content (blocks_for (length bytes)) l)) from_content
      ∙ content_back (blocks_for (length bytes)) bytes (end_block TAIL count (length bytes))
      (blocks_enough (length bytes))

  -- it is the only one that such a disk ends with
  pub laid_agrees : (rows : List (List ℕ)) → length rows ≡ count → bytes ≡ content rows
      → SnapshotAgrees rows (with_snapshot count bytes b)
  laid_agrees rows counts are other_count other_size ends =
      let tails : end_block TAIL other_count other_size ≡ end_block TAIL count (length bytes) =
      sym ends.tail ∙ ap (λ (n : ℕ). drop n (with_snapshot count bytes b))
      (omega_place other_count other_size (sym ends.long ∙ laid_size)) ∙ from_tail in
      let same = one_size TAIL other_count other_size count (length bytes) ends.size size_is tails in
      let all : take other_count rows ≡ rows =
      take_all other_count rows (omega (arith, same.0, counts)) in (
        omega (arith, same.0, counts),
        ap (λ (n : ℕ). snapshot_content n other_size (with_snapshot count bytes b)) same.0
            ∙ ap (λ (n : ℕ). snapshot_content count n (with_snapshot count bytes b)) same.1
            ∙ laid_content ∙ are ∙ ap (λ (rs : List (List ℕ)). content rs) (sym all),
      )
    where
      omega_place : (other_count other_size : ℕ)
          → snapshot_end other_count other_size ≡ snapshot_end count (length bytes)
          → snapshot_end other_count other_size - ROW_BYTES ≡ snapshot_end count (length bytes)
          - ROW_BYTES
      omega_place other_count other_size same = ap (λ (n : ℕ). n - ROW_BYTES) same

-- a write of a gate leaves the row behind it
pub gate_row_kept : (count : ℕ) (b now : List ℕ) → gate_behind count < length b
    → Torn (gate_behind count) 1 (gate_behind count + 1) b now
    → row_behind count b ≡ row_behind count now
gate_row_kept count b now long torn =
    let size : length now ≡ length b = omega (arith, long, torn.no_shorter, torn.no_longer) in
    ap (λ (l : List ℕ). OPEN ∷ take (ROW_BYTES - 1) l)
    (sym (drop_same now b (gate_behind count + 1) size
    (λ k from lt. torn.outside k lt (inr (omega (arith, from))))))

-- once the mark is set the snapshot fits, and holds its content
pub laid_holds : (count : ℕ) (bytes b : List ℕ) → IsSnapshotSize count (length bytes) → HasHeader b
    → gate_behind count < length b
    → HoldsSnapshot count bytes (overwritten (with_snapshot count bytes b) MARK (MARKED ∷ []))
laid_holds count bytes b size header long =
    let laid = with_snapshot count bytes b in
    let all = laid_size count bytes b size long in
    let within : MARK ≤ length laid = omega (arith, all) in
    let same_size : length (overwritten laid MARK (MARKED ∷ [])) ≡ length laid =
    omega (arith, overwritten_size laid MARK (MARKED ∷ []) within, all) in
    let same : (n : ℕ) → ROW_BYTES ≤ n
    → drop n laid ≡ drop n (overwritten laid MARK (MARKED ∷ [])) = λ n beyond.
    sym (drop_same (overwritten laid MARK (MARKED ∷ [])) laid n same_size
    (λ k from lt. kept_above laid MARK (MARKED ∷ []) k within (omega (arith, beyond, from)))) in
    let front : (k : ℕ) → k < ROW_BYTES → get_or laid k 0 ≡ get_or b k 0 = λ k lt.
    get_or_append_left (take (gate_behind count + 1) b) (behind_closed_gate count bytes) 0 k
    (omega (arith, lt, length-take-le (gate_behind count + 1) b (omega (arith, long))))
    ∙ get_or-take (gate_behind count + 1) b k 0 (omega (arith, lt)) in (
      record {
        header = record {
          long = omega (arith, same_size, all);
          same = λ k lt other. ⊎_elim (λ below. kept_below laid MARK (MARKED ∷ []) k within below)
              (λ above. kept_above laid MARK (MARKED ∷ []) k within (omega (arith, above, other)))
              (cases_lt k MARK) ∙ front k lt ∙ header.same k lt other;
        };
        marked = written_at laid MARK (MARKED ∷ []) 0 MARK within (omega arith) (omega arith);
        ends = ends_same count (length bytes) laid (overwritten laid MARK (MARKED ∷ []))
            (sym same_size) same (laid_ends count bytes b size long);
      },
      sym (content_same count (length bytes) laid (overwritten laid MARK (MARKED ∷ [])) same)
          ∙ laid_content count bytes b size long,
    )
