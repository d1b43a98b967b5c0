use Rattle.std.proofs.Common.{◌≤◌, ◌-◌, ℕ, List, [], ◌∷◌, ◌++◌, length, drop, ◌∙◌, ap, arith, length-drop}
use Rattle.std.proofs.lemmas.List.{take_all}
use Rattle.book_snapshot.specs.declared.layout.TheConstants.{ROW_BYTES}
use Rattle.book_journal.specs.declared.layout.TheConstants.{CLOSED}
use Rattle.book_journal.proofs.append.behind_gate.Goals as goal

pub returns : goal.returns
returns c =
    let row = c.args.row.now in
    let short : length (drop 1 row) ≤ ROW_BYTES - 1 = omega (arith, length-drop 1 row, c.told-row) in
    ap (λ (l : List ℕ). l ++ CLOSED ∷ [])
    (c.copy_from_slice.ensures.after ∙ take_all (ROW_BYTES - 1) (drop 1 row) short)
