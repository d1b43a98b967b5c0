use Rattle.std.proofs.Common.{◌≡◌, ◌↔◌, ◌≤◌, ℕ, List, Bool, true, false, if◌then◌else◌, Option, Some, None, IsTrue, MatchOption, inl, inr, refl, length, take, sym, ap, ◌∙◌, subst, arith, length-take}
use Rattle.device_facts.specs.Prefix.{IsPrefixOf}
use Rattle.book_snapshot.specs.declared.layout.TheConstants.{ROW_BYTES}
use Rattle.book_snapshot.specs.declared.types.Piece.{Piece}
use Rattle.book_snapshot.specs.DenseRows.{dense}
use Rattle.book_snapshot.specs.Reading.{Gives, IsReadAs}
use Rattle.book_audit.proofs.beside.form_at.Goals as goal

pub returns-in-More : goal.returns-in-More
returns-in-More c prefix =
    let row = c.args.row.now in
    let gives = c.read_one.ensures.back row prefix.0 c.requires prefix.1 in
    elim c.in-More.is [
      | inl is ↦ subst (λ (p : Piece ROW_BYTES). Gives p row (length (dense row))) is gives
      | inr is ↦ subst (λ (p : Piece ROW_BYTES). Gives p row (length (dense row))) is gives
    ]

-- where the row that was read is this one its form is there, and else it isn't
form_found : (same : Bool) (number taken : ℕ) (row other bytes : List ℕ) (result : Option ℕ)
    → result ≡ (if same then Some taken else None) → (IsTrue same ↔ (other ≡ row))
    → IsReadAs ROW_BYTES number bytes other taken
    → (IsPrefixOf (dense row) bytes → other ≡ row)
    → MatchOption result (¬ IsPrefixOf (dense row) bytes)
    (λ found. (found ≤ length bytes) × (take found bytes ≡ dense row))
form_found true number taken row other bytes result is same read back =
    let found : other ≡ row = same.0 refl in
    subst (λ (o : Option ℕ). MatchOption o (¬ IsPrefixOf (dense row) bytes)
    (λ n. (n ≤ length bytes) × (take n bytes ≡ dense row))) (sym is) (
      omega (arith, read.end, ap length read.form, length-take taken bytes),
      read.form ∙ ap dense found,
    )
form_found false number taken row other bytes result is same read back =
    subst (λ (o : Option ℕ). MatchOption o (¬ IsPrefixOf (dense row) bytes)
    (λ n. (n ≤ length bytes) × (take n bytes ≡ dense row))) (sym is)
    (λ prefix. absurd (let yes = same.1 (back prefix) in cc))

pub returns-in-Row : goal.returns-in-Row
returns-in-Row c =
    form_found c.is_same.result c.args.number c.in-Row.taken c.args.row.now c.in-Row.other
    c.args.content.now c.where_same.result c.where_same.ensures c.is_same.ensures
    c.in-Row.ensures.row
    (λ prefix. (c.in-Row.ensures.back c.args.row.now prefix.0 c.requires prefix.1).0)
