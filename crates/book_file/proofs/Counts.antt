-- How many slots are open, at most so many.
use Rattle.std.proofs.Common.{◌≡◌, ◌⊎◌, inl, inr, ⊎_elim, ℕ, ◌+◌, ◌-◌, ◌*◌, ◌/◌, ◌<◌, ◌≤◌, min, List, length, take, drop, ap, sym, ◌∙◌, subst, arith, false, length-drop}
use Rattle.std.proofs.lemmas.Bool.{cases_lt}
use Rattle.book_snapshot.specs.declared.layout.TheConstants.{ROW_BYTES}
use Rattle.book_journal.specs.Rows.{open_rows, starts_open}
use Rattle.book_journal.proofs.OpenRows.{rows_stop, rows_fit, end_by_cut, shut_by_cut, open_rows-shut}
use Rattle.book_journal.proofs.OpenEnds.{rows_counted}

-- the first of them that is closed or cut ends the count
pub ends_count : (most n : ℕ) (bytes : List ℕ) → length (open_rows n bytes) ≡ n
    → starts_open (drop (ROW_BYTES * n) bytes) ≡ false → n ≤ most
    → n ≡ length (open_rows most bytes)
ends_count most n bytes counts shut le = sym counts ∙ ap length (sym (rows_stop n most bytes counts shut le))

-- all whole slots are counted, or as many as count
pub whole_count : (most n : ℕ) (bytes : List ℕ) → n ≡ min (length bytes / ROW_BYTES) most
    → length (open_rows n bytes) ≡ n → n ≡ length (open_rows most bytes)
whole_count most n bytes is counts = elim (cases_lt n most) [
  | inl less ↦ ends_count most n bytes counts
      (end_by_cut n bytes (omega (arith, is, less))) (omega (arith, less))
  | inr full ↦
      let all : n ≡ most = omega (arith, is, full) in
      sym (subst (λ (k : ℕ). length (open_rows k bytes) ≡ n) all counts)
]

-- without a whole header nothing is open
pub none_without_header : (most : ℕ) (bytes : List ℕ) → length bytes < ROW_BYTES
    → length (open_rows most (drop ROW_BYTES bytes)) ≡ 0
none_without_header most bytes short =
    ap length (open_rows-shut most (drop ROW_BYTES bytes)
    (shut_by_cut (drop ROW_BYTES bytes) (omega (arith, short, length-drop ROW_BYTES bytes))))

-- the open slots are there
pub open_within : (most : ℕ) (bytes : List ℕ) → ROW_BYTES ≤ length bytes
    → ROW_BYTES * (length (open_rows most (drop ROW_BYTES bytes)) + 1) ≤ length bytes
open_within most bytes long =
    let rows = open_rows most (drop ROW_BYTES bytes) in
    omega (
      arith,
      long,
      rows_fit (length rows) (drop ROW_BYTES bytes) (ap length (rows_counted most (drop ROW_BYTES bytes))),
      length-drop ROW_BYTES bytes,
    )
