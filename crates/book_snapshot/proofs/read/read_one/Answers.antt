use Rattle.std.proofs.Common.{◌≡◌, ◌+◌, ◌≤◌, ◌∙◌, ◌∷◌, ℕ, zero, suc, ap, subst, sym, arith, refl}
use Rattle.book_snapshot.specs.Reading.{IsReadAs}
use Rattle.book_snapshot.proofs.DenseLemmas.{form_read, front_some, front_most, front_last, front_row, front_said}
use Rattle.book_snapshot.proofs.read.read_one.Goals as goal
use Rattle.book_snapshot.proofs.read.read_one.Goals.{then-count-eq0-via-then-count-eq0, then-count-eq0-via-else-count-eq0+then-count}

some_by : (n : ℕ) → (n ≡ 0 → ⊥) → 1 ≤ n
some_by zero other = absurd (other refl)
some_by (suc n) other = omega arith

pub returns-then-count-eq0-clause-back : goal.returns-then-count-eq0-clause-back
returns-then-count-eq0-clause-back g c row more is begins =
    let bytes = c.args.bytes.now in
    let rest = c.in-Some.rest.now in
    let are = c.in-Some.ensures.cases.0 in
    let first = c.in-Some.first.now in
    let some = front_some g.row.Z c.args.number row more c.requires is first bytes rest are begins in
    let most = front_most g.row.Z c.args.number row more c.requires is first bytes rest are begins in
    elim c.then-count-eq0.branch [
      | then-count-eq0-via-then-count-eq0 w ↦
          omega (arith, some, w.if-count-eq0.true, c.from-count.ensures)
      | then-count-eq0-via-else-count-eq0+then-count w ↦
          omega (arith, most, w.if-count.true, c.from-count.ensures)
    ]

pub returns-then-form-count-eq0-clause-back : goal.returns-then-form-count-eq0-clause-back
returns-then-form-count-eq0-clause-back g c row more is begins =
    let rest = c.in-Some.rest.now in
    let are = c.in-Some.ensures.cases.0 ∙ ap (λ (n : ℕ). n ∷ rest) (sym c.from-count.ensures) in
    front_last g.row.Z c.args.number row more c.requires is c.from-count.result c.args.bytes.now
    rest are begins
    c.split_at.result.0.now c.split_at.ensures.front c.if-form-count-eq0.true

pub returns-clause-row : goal.returns-clause-row
returns-clause-row g c =
    let rest = c.in-Some.rest.now in
    let are = c.in-Some.ensures.cases.0 ∙ ap (λ (n : ℕ). n ∷ rest) (sym c.from-count.ensures) in
    let there = form_read g.row.Z c.args.number c.from-count.result c.args.bytes.now rest
    c.split_at.result.0.now are
    c.split_at.ensures.front (some_by c.from-count.result c.if-count-eq0.false) c.if-count.false
    c.if-rest-count.false c.if-form-count-eq0.false in
    subst (λ r. IsReadAs g.row.Z c.args.number c.args.bytes.now r (c.from-count.result + 1))
    (sym c.spread.ensures) there

pub returns-clause-back : goal.returns-clause-back
returns-clause-back g c row more is begins =
    let rest = c.in-Some.rest.now in
    let are = c.in-Some.ensures.cases.0 ∙ ap (λ (n : ℕ). n ∷ rest) (sym c.from-count.ensures) in
    let said = front_said g.row.Z c.args.number row more c.requires is c.from-count.result
    c.args.bytes.now rest are begins in
    let same = front_row g.row.Z c.args.number row more c.requires is c.from-count.result
    c.args.bytes.now rest are begins c.split_at.result.0.now c.split_at.ensures.front in
    (c.spread.ensures ∙ same, omega (arith, said))
