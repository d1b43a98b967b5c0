use Rattle.std.proofs.Common.{◌≡◌, ap, FitsSigned, w32}
use Rattle.std.proofs.lemmas.Int.{to_z-of_z}
use Rattle.tare_register.specs.Tares.{Register}
use Rattle.tare_register.proofs.Within.{span_decides, span_constant}
use Rattle.tare_register.proofs.tares.Tares.span.Goals as goal

pub returns-clause-decided : goal.returns-clause-decided
returns-clause-decided c tare other_product other_day =
    let fits : FitsSigned w32 c.args.day = c.ranges.day in
    let seen : c.self.inside.entries.items ≡ c.args.self.now.entries =
    ap (λ (register : Register). register.entries) c.self.view_is in
    let found = simp to_z-of_z at c.find_next_day.ensures in
    let until = rw (c.deref.ensures.value, seen) at found in
    simp (to_z-of_z, until) (span_decides c.args.self.now.entries c.args.product c.args.day tare
    other_product other_day)

pub returns-clause-constant : goal.returns-clause-constant
returns-clause-constant c =
    let fits : FitsSigned w32 c.args.day = c.ranges.day in
    let seen : c.self.inside.entries.items ≡ c.args.self.now.entries =
    ap (λ (register : Register). register.entries) c.self.view_is in
    let found = simp to_z-of_z at c.find_next_day.ensures in
    let until = rw (c.deref.ensures.value, seen) at found in
    simp (to_z-of_z, until) (span_constant c.args.self.now.entries c.args.product c.args.day)
