use Rattle.std.proofs.Common.{◌≡◌, ◌+◌, ◌*◌, ◌++◌, ℕ, List, length, take, drop, sym, ◌∙◌, ap, subst, arith, length-drop, length-take}
use Rattle.std.proofs.lemmas.List.{take-append-drop}
use Rattle.device_facts.specs.Prefix.{IsPrefixOf}
use Rattle.book_snapshot.specs.declared.layout.TheConstants.{ROW_BYTES}
use Rattle.book_journal.specs.Rows.{gate_behind}
use Rattle.book_audit.specs.declared.slots.Walk.{Walk}
use Rattle.book_audit.specs.Walking.{WalksTo}
use Rattle.book_audit.proofs.WalkSteps.{walks_end}
use Rattle.book_audit.proofs.slots.read_piece.Goals as goal

-- what was read is what stands there
read_front : (piece bytes : List ℕ) (count place gate : ℕ) → place ≡ gate
    → take count piece ≡ take count (drop place bytes)
    → IsPrefixOf (take count piece) (drop gate bytes)
read_front piece bytes count place gate is same = (
  drop count (drop gate bytes),
  sym (take-append-drop count (drop gate bytes))
      ∙ ap (λ (l : List ℕ). l ++ drop count (drop gate bytes))
      (sym (same ∙ ap (λ (n : ℕ). take count (drop n bytes)) is)),
)

pub returns-clause-walks : goal.returns-clause-walks
returns-clause-walks g c b told stands =
    let place : ROW_BYTES * (c.from.result + 1) ≡ gate_behind (length c.args.book.now.entries) =
    omega (arith, c.from.ensures, c.len.ensures) in
    c.in_ok-stands.ensures.walks b stands
    (read_front c.read_at.new.into b c.in-Ok.count _ _ place (c.in-Ok.ensures.bytes b told))

pub returns-then-count-lt-PIECE-clause-walks : goal.returns-then-count-lt-PIECE-clause-walks
returns-then-count-lt-PIECE-clause-walks g c b told stands =
    let new = c.enter_slots.new.book.entries in
    let into = c.read_at.new.into in
    let count = c.in-Ok.count in
    let place : ROW_BYTES * (c.from.result + 1) ≡ gate_behind (length c.args.book.now.entries) =
    omega (arith, c.from.ensures, c.len.ensures) in
    subst (λ (w : Walk). WalksTo b new w) (sym c.at_end.ensures)
    (walks_end b new c.in_ok-stands.stands
    (λ on. omega (
      arith,
      place,
      length-drop (gate_behind (length new)) b,
      c.in_ok-stands.ensures.through on,
      c.in-Ok.ensures.count b told,
      c.if-count-lt-PIECE.true,
      length-take count into,
      c.read_at.auto.into,
    ))
    (c.in_ok-stands.ensures.walks b stands
    (read_front into b count _ _ place (c.in-Ok.ensures.bytes b told))))
