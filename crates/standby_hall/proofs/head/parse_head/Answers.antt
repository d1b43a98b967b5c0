use Rattle.std.proofs.Common.{rules, ◌≡◌, ◌<◌, ◌^◌, ℕ, List, slice_range, Some, None, sym, ap, ◌∙◌, arith}
use Rattle.std.specs.Int.{w32, from_le_bytes}
use Rattle.std.proofs.lemmas.Nat.{from_le_bytes-to_le_bytes_4}
use Rattle.standby_hall.specs.declared.types.ShipHead.{ShipHead as Heading}
use Rattle.standby_hall.specs.Shipments.{head_bytes}
use Rattle.standby_hall.proofs.head.parse_head.Goals as goal
use Rattle.standby_hall.proofs.head.parse_head.Goals.{else-head-via-then-head+then-head-le-MAX_ROWS+else-eq, else-head-via-then-head+else-head-le-MAX_ROWS, else-head-via-else-head}

pub returns-clause-back : goal.returns-clause-back
returns-clause-back c = λ head good is.
    let all : c.get_u32.result ≡ head.all = c.get_u32.ensures
    ∙ ap (λ (l : List ℕ). from_le_bytes w32 (slice_range l 8 12)) is
    ∙ from_le_bytes-to_le_bytes_4 head.all (omega (arith, good.few)) in
    let passed : c.get_u32-2.result ≡ head.passed = c.get_u32-2.ensures
    ∙ ap (λ (l : List ℕ). from_le_bytes w32 (slice_range l 12 16)) is
    ∙ from_le_bytes-to_le_bytes_4 head.passed (omega (arith, good.inside, good.few)) in
    absurd (elim c.else-head.branch [
      | else-head-via-then-head+then-head-le-MAX_ROWS+else-eq w ↦
          let told : Heading = record { all = c.get_u32.result; passed = c.get_u32-2.result } in
          let heads : told ≡ head = λ i. record { all = all i; passed = passed i } in
          let same : w.spell_head.result ≡ c.args.bytes.now = w.spell_head.ensures ∙ ap head_bytes heads
          ∙ sym is in
          search rules
      | else-head-via-then-head+else-head-le-MAX_ROWS w ↦
          omega (arith, w.if-head-le-MAX_ROWS.false, all, good.few)
      | else-head-via-else-head w ↦ omega (arith, w.if-head.false, all, passed, good.inside)
    ])
