-- The rows of a running hall's file.
use Rattle.std.proofs.Common.{◌≡◌, inl, inr, ℕ, zero, suc, ◌+◌, ◌-◌, ◌≤◌, List, [], ◌∷◌, ◌++◌, length, take, drop, ap, sym, ◌∙◌, refl, arith, length-append}
use Rattle.std.proofs.lemmas.List.{take-append-le}
use Rattle.book_snapshot.specs.declared.layout.TheConstants.{ROW_BYTES}
use Rattle.book_journal.specs.Rows.{open_rows, rows_of}
use Rattle.book_journal.proofs.OpenRows.{open_or_shut, open_rows-open, open_rows-shut, open_rows-none}
use Rattle.book_file.specs.Live.{IsRunning, LiveRowsStay, live_count}

-- the rows of fewer slots are the first of them
fewer : (n m : ℕ) (bytes : List ℕ) → n ≤ m → open_rows n bytes ≡ take n (open_rows m bytes)
fewer zero m bytes le = open_rows-none bytes
fewer (suc n) zero bytes le = absurd (omega (arith, le))
fewer (suc n) (suc m) bytes le = elim (open_or_shut bytes) [
  | inl is ↦
      open_rows-open n bytes is
      ∙ ap (λ (l : List (List ℕ)). take ROW_BYTES bytes ∷ l)
      (fewer n m (drop ROW_BYTES bytes) (omega (arith, le)))
      ∙ ap (take (suc n)) (sym (open_rows-open m bytes is))
  | inr shut ↦
      open_rows-shut (suc n) bytes shut
      ∙ ap (take (suc n)) (sym (open_rows-shut (suc m) bytes shut))
]

pub live_rows_stay : LiveRowsStay
live_rows_stay rows more counted taken then now =
    let n = live_count counted in
    let few : n ≤ length rows = omega (arith, then.behind) in
    fewer n (length (rows ++ more)) (drop ROW_BYTES taken)
    (omega (arith, few, length-append rows more))
    ∙ ap (take n) now.stand ∙ take-append-le n rows more few
