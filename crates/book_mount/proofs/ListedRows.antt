-- The rows that a disk lists are those that are read of it, and of a book's disk the book's.
use Rattle.std.proofs.Common.{◌≡◌, inl, inr, ⊎_elim, ℕ, zero, suc, ◌+◌, ◌-◌, ◌*◌, ◌<◌, ◌≤◌, true, false, List, [], ◌∷◌, ◌++◌, length, get_or, take, drop, Option, Some, None, refl, sym, ◌∙◌, ap, subst, arith, length-append, length-drop, length-take}
use Rattle.std.proofs.lemmas.List.{map-append, take_at, drop_at, take-append-drop, drop-drop, get_or-drop}
use Rattle.std.proofs.Math.ListN.{get_or-append}
use Rattle.std.proofs.lemmas.Bool.{cases_lt}
use Rattle.std.proofs.lemmas.Bool.Decides.{nat_tests}
use Rattle.hall_limits.specs.declared.TheConstants.{MAX_ROWS}
use Rattle.book_snapshot.specs.declared.types.Kept.{Kept}
use Rattle.book_snapshot.specs.declared.layout.TheConstants.{ROW_BYTES, FIELDS_PLACE}
use Rattle.book_snapshot.specs.DenseRows.{short_row, dense, content, IsRow, AreRows, row_of}
use Rattle.book_snapshot.proofs.DenseLemmas.{short_some, short_most, short_last, row_back}
use Rattle.book_journal.specs.declared.layout.TheConstants.{MAX_SLOTS}
use Rattle.book_journal.specs.Rows.{HasHeader, IsJournalOf, Recovers, open_rows, rows_of, gate_behind, starts_open}
use Rattle.book_journal.specs.Mounting.{IsSnapshotOf, rows_before, slots_behind, closed_behind}
use Rattle.book_journal.proofs.OpenRows.{open_rows-open, open_rows-none, open_or_shut, open_rows-shut, rows_stop, same_take}
use Rattle.book_journal.proofs.OpenEnds.{rows_counted, journal_of, short_none, journal_rows, journal_ends, snapshot_within, first_within, counted_within}
use Rattle.book_journal.proofs.Gates.{behind}
use Rattle.book_journal.proofs.Fronts.{closed_behind_as}
use Rattle.book_mount.specs.Listing.{begins_form, form_row, behind_form, content_rows, snapshot_rows, slot_rows, Lists, ListsRows}
use Rattle.book_mount.specs.Opening.{slot_row, slots_from}
use Rattle.book_mount.proofs.Forms.{begins, content_rows-form, content_rows-none}
use Rattle.book_mount.proofs.OpenedRows.{listed}

-- the dense form of a row in front of content
module _ (number : ℕ) (row more : List ℕ) (is : IsRow ROW_BYTES number row) where
  long : FIELDS_PLACE ≤ ROW_BYTES
  long = omega arith

  last_there : (short : List ℕ) (count : ℕ) → count ≡ length short → 1 ≤ count
      → get_or (count ∷ (short ++ more)) count 0 ≡ get_or short (length short - 1) 0
  last_there short count size some =
      let next : count ≡ suc (count - 1) = omega (arith, some) in
      let place : count - 1 ≡ length short - 1 = omega (arith, size) in
      ap (λ (n : ℕ). get_or (count ∷ (short ++ more)) n 0) next
      ∙ get_or-append short more 0 (count - 1) (omega (arith, size, some))
      ∙ ap (λ (n : ℕ). get_or short n 0) place

  dense_begins : begins_form (dense row ++ more) ≡ true
  dense_begins =
      let some = short_some ROW_BYTES number row long is in
      begins (dense row ++ more) some (short_most ROW_BYTES number row long is)
      (omega (arith, length-append (short_row row) more))
      (λ zero_is. short_last ROW_BYTES number row long is
      (sym (last_there (short_row row) (length (short_row row)) refl some) ∙ zero_is))

  dense_row : form_row number (dense row ++ more) ≡ row
  dense_row = ap (λ (l : List ℕ). row_of ROW_BYTES number l)
      (take_at (short_row row) more (length (short_row row)) refl)
      ∙ sym (row_back ROW_BYTES number row long is)

  dense_behind : behind_form (dense row ++ more) ≡ more
  dense_behind =
      let next : length (short_row row) + 1 ≡ suc (length (short_row row)) = omega arith in
      ap (λ (n : ℕ). drop n (dense row ++ more)) next
      ∙ drop_at (short_row row) more (length (short_row row)) refl

-- content of rows lists these rows
pub forms_listed : (number : ℕ) (rows : List (List ℕ)) → AreRows ROW_BYTES number rows
    → content_rows (length rows) number (content rows) ≡ listed rows
forms_listed number [] are = content_rows-none number
forms_listed number (row ∷ rows) are =
    content_rows-form (length rows) number (dense row ++ content rows)
    (dense_begins number row (content rows) are.0)
    ∙ ap (λ (r : List ℕ). Some r ∷ content_rows (length rows) (number + 1)
    (behind_form (dense row ++ content rows))) (dense_row number row (content rows) are.0)
    ∙ ap (λ (l : List ℕ). Some row ∷ content_rows (length rows) (number + 1) l)
    (dense_behind number row (content rows) are.0)
    ∙ ap (λ (l : List (Option (List ℕ))). Some row ∷ l) (forms_listed (number + 1) rows are.1)

rows_front : (count number : ℕ) (rows : List (List ℕ)) → AreRows ROW_BYTES number rows
    → AreRows ROW_BYTES number (take count rows)
rows_front zero number rows are = tt
rows_front (suc count) number [] are = tt
rows_front (suc count) number (row ∷ rows) are = (are.0, rows_front count (number + 1) rows are.1)

first_is_open : (more most : ℕ) (bytes : List ℕ) → length (open_rows most bytes) ≡ suc more
    → starts_open bytes ≡ true
first_is_open more most bytes counts =
    ⊎_elim (λ is. is) (λ shut. absurd
    (omega (arith, counts, ap length (open_rows-shut most bytes shut)))) (open_or_shut bytes)

-- the slots that are read are those that are open
pub slots_listed : (more most number : ℕ) (bytes now : List ℕ)
    → length (open_rows most (drop (ROW_BYTES * number) bytes)) ≡ more
    → ((n : ℕ) → number ≤ n → n < number + more → slot_row n now ≡ slot_row n bytes)
    → slots_from more number now ≡ listed (open_rows most (drop (ROW_BYTES * number) bytes))
unfolding slots_from
slots_listed zero most number bytes now counts same =
    ap listed (sym (none_of (open_rows most (drop (ROW_BYTES * number) bytes)) counts))
  where
    none_of : (rows : List (List ℕ)) → length rows ≡ 0 → rows ≡ []
    none_of [] none = refl
    none_of (row ∷ rows) none = absurd (omega (arith, none))
slots_listed (suc more) zero number bytes now counts same =
    absurd (omega (arith, counts, ap length (open_rows-none (drop (ROW_BYTES * number) bytes))))
slots_listed (suc more) (suc most) number bytes now counts same =
    let there = drop (ROW_BYTES * number) bytes in
    let is = first_is_open more (suc most) there counts in
    let first = open_rows-open most there is in
    let next : drop ROW_BYTES there ≡ drop (ROW_BYTES * (number + 1)) bytes =
    drop-drop ROW_BYTES (ROW_BYTES * number) bytes
    ∙ ap (λ (n : ℕ). drop n bytes) (omega arith) in
    let rest_counts : length (open_rows most (drop (ROW_BYTES * (number + 1)) bytes)) ≡ more =
    omega (
      arith,
      counts,
      ap length first,
      ap (λ (l : List ℕ). length (open_rows most l)) next,
    ) in
    let rest = slots_listed more most (number + 1) bytes now rest_counts
    (λ n from below. same n (omega (arith, from)) (omega (arith, below))) in
    ap (λ (row : List ℕ). Some row ∷ slots_from more (number + 1) now)
    (same number (omega arith) (omega arith))
    ∙ ap (λ (l : List (Option (List ℕ))). Some (slot_row number bytes) ∷ l) rest
    ∙ ap (λ (l : List ℕ). Some (slot_row number bytes) ∷ listed (open_rows most l)) (sym next)
    ∙ ap listed (sym first)

-- with too many open slots nothing is written
full_still : (count : ℕ) (bytes : List ℕ) → MAX_ROWS < count → closed_behind count bytes ≡ bytes
full_still count bytes full = grind (arith, nat_tests)

-- a disk with the header, and what is read of it once it is mounted
module _ (bytes : List ℕ) (kept : Option Kept) (count : ℕ) (header : HasHeader bytes)
    (snapshot : IsSnapshotOf bytes kept)
    (slots : count ≡ rows_before kept + slots_behind (rows_before kept) bytes)
    (most : count ≤ MAX_SLOTS) where
  pub counts_first : rows_before kept ≤ count
  counts_first = omega (arith, slots)

  open_counted : length (open_rows (count - rows_before kept)
      (drop (gate_behind (rows_before kept)) bytes)) ≡ count - rows_before kept
  open_counted =
      let behind_it : count - rows_before kept ≡ slots_behind (rows_before kept) bytes =
      omega (arith, slots) in
      ap (λ (n : ℕ). length (open_rows n (drop (gate_behind (rows_before kept)) bytes))) behind_it
      ∙ ap length (rows_counted (MAX_SLOTS - rows_before kept)
      (drop (gate_behind (rows_before kept)) bytes))
      ∙ sym behind_it

  gate_within : gate_behind count ≤ length bytes
  gate_within = counted_within (rows_before kept) count bytes counts_first
      (first_within bytes kept header snapshot) open_counted

  -- the bytes before the gate are as they were, and the gate is there
  record IsRead (now : List ℕ) : Type 0 where
    pub long : gate_behind count ≤ length now
    pub same : (k : ℕ) → ROW_BYTES ≤ k → k < gate_behind count → get_or now k 0 ≡ get_or bytes k 0

  read_closed : IsRead (closed_behind count bytes)
  read_closed = ⊎_elim
      (λ full. subst (λ (l : List ℕ). IsRead l) (sym (full_still count bytes full)) record
      { long = gate_within; same = λ k from below. refl })
      (λ few.
      let closed = closed_behind_as count bytes header gate_within few in
      let long = closed.long in
      record {
        long = omega (arith, long);
        same =
            λ k from below. closed.same k below (λ mark. absurd (omega (arith, mark, from)));
      })
      (cases_lt MAX_ROWS count)

  pub closed_long : gate_behind count ≤ length (closed_behind count bytes)
  closed_long = read_closed.long

  slot_same : (n : ℕ) → 1 ≤ n → n ≤ count → slot_row n (closed_behind count bytes) ≡ slot_row n bytes
  slot_same n from below =
      let now = closed_behind count bytes in
      let long = read_closed.long in
      same_take ROW_BYTES (drop (ROW_BYTES * n) now) (drop (ROW_BYTES * n) bytes)
      (omega (arith, long, below, length-drop (ROW_BYTES * n) now))
      (omega (arith, gate_within, below, length-drop (ROW_BYTES * n) bytes))
      (λ k lt. get_or-drop (ROW_BYTES * n) now k 0
      ∙ read_closed.same (ROW_BYTES * n + k) (omega (arith, from)) (omega (arith, lt, below))
      ∙ sym (get_or-drop (ROW_BYTES * n) bytes k 0))

  pub slots_read : slots_from (count - rows_before kept) (rows_before kept + 1)
      (closed_behind count bytes) ≡ listed (slot_rows (rows_before kept) bytes)
  slots_read =
      let all : length (open_rows (MAX_SLOTS - rows_before kept)
      (drop (ROW_BYTES * (rows_before kept + 1)) bytes)) ≡ count - rows_before kept =
      omega (arith, slots) in
      slots_listed (count - rows_before kept) (MAX_SLOTS - rows_before kept)
      (rows_before kept + 1) bytes (closed_behind count bytes) all
      (λ n from below. slot_same n (omega (arith, from)) (omega (arith, below, counts_first)))

-- the rows of a snapshot depend on its bytes alone
pub snapshot_same : (kept : Option Kept) (bytes now : List ℕ)
    → ((found : Kept) → kept ≡ Some found → now ≡ bytes)
    → snapshot_rows kept now ≡ snapshot_rows kept bytes
snapshot_same None bytes now still = refl
snapshot_same (Some kept) bytes now still =
    ap (λ (l : List ℕ). snapshot_rows (Some kept) l) (still kept refl)

-- open slots behind the first are the rows behind the first
rows_behind : (first more : ℕ) (bytes : List ℕ)
    → length (open_rows (first + more) bytes) ≡ first + more
    → open_rows more (drop (ROW_BYTES * first) bytes) ≡ drop first (open_rows (first + more) bytes)
rows_behind zero more bytes counts =
    let none : more ≡ zero + more = omega arith in
    ap (λ (n : ℕ). open_rows n bytes) none
rows_behind (suc first) more bytes counts =
    let sum : suc first + more ≡ suc (first + more) = omega arith in
    let all : length (open_rows (suc (first + more)) bytes) ≡ suc (first + more) =
    subst (λ (n : ℕ). length (open_rows n bytes) ≡ n) sum counts in
    let is = first_is_open (first + more) (suc (first + more)) bytes all in
    let one = open_rows-open (first + more) bytes is in
    let next : drop (ROW_BYTES * suc first) bytes
    ≡ drop (ROW_BYTES * first) (drop ROW_BYTES bytes) =
    ap (λ (n : ℕ). drop n bytes) (omega arith)
    ∙ sym (drop-drop (ROW_BYTES * first) ROW_BYTES bytes) in
    ap (λ (l : List ℕ). open_rows more l) next
    ∙ rows_behind first more (drop ROW_BYTES bytes) (omega (arith, all, ap length one))
    ∙ ap (λ (l : List (List ℕ)). drop (suc first) l) (sym one)
    ∙ ap (λ (n : ℕ). drop (suc first) (open_rows n bytes)) (sym sum)

module _ (bytes : List ℕ) (rows : List (List ℕ)) (is : IsJournalOf rows bytes)
    (few : length rows ≤ MAX_ROWS) where
  slots_of : (first : ℕ) → first ≤ length rows → slot_rows first bytes ≡ drop first rows
  slots_of first le =
      let sum : first + (length rows - first) ≡ length rows = omega (arith, le) in
      let all : length (open_rows (first + (length rows - first)) (drop ROW_BYTES bytes)) ≡ first
      + (length rows - first) = subst (λ (n : ℕ). length (rows_of n bytes) ≡ n) (sym sum)
      (ap length (journal_rows bytes rows is)) in
      let there : open_rows (length rows - first) (drop (gate_behind first) bytes) ≡ drop first rows =
      ap (λ (l : List ℕ). open_rows (length rows - first) l) (sym (behind first bytes))
      ∙ rows_behind first (length rows - first) (drop ROW_BYTES bytes) all
      ∙ ap (λ (n : ℕ). drop first (rows_of n bytes)) sum
      ∙ ap (λ (l : List (List ℕ)). drop first l) (journal_rows bytes rows is) in
      let place : gate_behind first + ROW_BYTES * (length rows - first)
      ≡ gate_behind (length rows) = omega (arith, le) in
      let ended : starts_open (drop (ROW_BYTES * (length rows - first))
      (drop (gate_behind first) bytes)) ≡ false =
      subst (λ (l : List ℕ). starts_open l ≡ false)
      (sym (drop-drop (ROW_BYTES * (length rows - first)) (gate_behind first) bytes
      ∙ ap (λ (n : ℕ). drop n bytes) place)) (journal_ends bytes rows is) in
      rows_stop (length rows - first) (MAX_SLOTS - first) (drop (gate_behind first) bytes)
      (ap length there ∙ length-drop first rows) ended (omega (arith, few)) ∙ there

  snapshot_of : (kept : Option Kept) → IsSnapshotOf bytes kept
      → snapshot_rows kept bytes ≡ listed (take (rows_before kept) rows)
  snapshot_of None of = refl
  snapshot_of (Some kept) of =
      let agrees = is.snapshot (λ none. omega (arith, of.marked, none)) kept.rows kept.bytes of.ends in
      let size : length (take kept.rows rows) ≡ kept.rows = length-take kept.rows rows
      ∙ omega (arith, agrees.0) in
      ap (λ (l : List ℕ). content_rows kept.rows 1 l) agrees.1
      ∙ ap (λ (n : ℕ). content_rows n 1 (content (take kept.rows rows))) (sym size)
      ∙ forms_listed 1 (take kept.rows rows) (rows_front kept.rows 1 rows is.numbered)

  journal_listed : (all : List (Option (List ℕ))) → ListsRows bytes all → all ≡ listed rows
  journal_listed all lists =
      let within = snapshot_within bytes rows lists.kept is lists.snapshot in
      lists.are
      ∙ ap (λ (l : List (Option (List ℕ))). l ++ listed (slot_rows (rows_before lists.kept) bytes))
      (snapshot_of lists.kept lists.snapshot)
      ∙ ap (λ (l : List (List ℕ)). listed (take (rows_before lists.kept) rows) ++ listed l)
      (slots_of (rows_before lists.kept) within)
      ∙ sym (map-append (λ row. Some row) (take (rows_before lists.kept) rows)
      (drop (rows_before lists.kept) rows))
      ∙ ap listed (take-append-drop (rows_before lists.kept) rows)

-- a disk lists the rows that it recovers
pub recovered_listed : (bytes : List ℕ) (rows : List (List ℕ)) (all : List (Option (List ℕ)))
    → Recovers bytes rows → length rows ≤ MAX_ROWS → Lists bytes all → all ≡ listed rows
recovered_listed bytes rows all recovers few (inl lists) =
    journal_listed bytes rows (journal_of bytes rows lists.header recovers) few all lists
recovered_listed bytes rows all recovers few (inr none) = none.none
    ∙ ap listed (sym (short_none bytes rows none.short recovers))
