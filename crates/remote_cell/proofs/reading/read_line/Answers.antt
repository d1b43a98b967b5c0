use Rattle.std.proofs.Common.{◌≡◌, ◌≤◌, ℕ, Option, Ok, eqb, false, List, [], ◌∷◌, length, option_map, sym, subst, ap, ◌∙◌, arith, rules, length-append}
use Rattle.disk_core.specs.Doors.{with_taken}
use Rattle.remote_cell.specs.declared.wire_lines.TheConstants.{MAX_LINE}
use Rattle.remote_cell.specs.Told.{port}
use Rattle.remote_cell.specs.Lines.{has_end}
use Rattle.remote_cell.specs.Steps.{ReadsByte}
use Rattle.remote_cell.proofs.DoorBytes.{more_plain, reads_more, reads_whole}
use Rattle.remote_cell.proofs.reading.read_line.Goals as goal

pub returns-in-Ok-Some-eq10 : goal.returns-in-Ok-Some-eq10
returns-in-Ok-Some-eq10 g c =
    let old = port g.O.Source g.O.Door.connections g.O.Door.missed c.args.door.now in
    let mid = port g.O.Source g.O.Door.connections g.O.Door.missed c.loop-place.door in
    let new = port g.O.Source g.O.Door.connections g.O.Door.missed c.read_byte.new.door in
    let here = c.loop-place.invariant in
    let few : length c.loop-place.line ≤ MAX_LINE = omega (arith, here.few, c.loop-place-test.true) in
    let read = subst (λ (o : Option ℕ). ReadsByte mid new (Ok o)) c.in-Ok-Some-eq10.field-0-is
    c.in-Ok-Some-eq10.ensures.reads in
    let ten : c.in-Ok-Some-eq10.field-0-0 ≡ 10 = search rules in
    reads_whole old mid new c.loop-place.line c.in-Ok-Some-eq10.field-0-0
    ten here.plain few here.connections here.calm read (c.read_byte.ensures.misses ∙ here.missed)

pub loop-place-preserved : goal.loop-place-preserved
loop-place-preserved g c =
    let old = port g.O.Source g.O.Door.connections g.O.Door.missed c.args.door.now in
    let mid = port g.O.Source g.O.Door.connections g.O.Door.missed c.loop-place.door in
    let new = port g.O.Source g.O.Door.connections g.O.Door.missed c.read_byte.new.door in
    let here = c.loop-place.invariant in
    let line = c.loop-place.line in
    let byte = c.in-Ok-Some.byte in
    let read = subst (λ (o : Option ℕ). ReadsByte mid new (Ok o)) c.in-Ok-Some.field-0-is
    c.in-Ok-Some.ensures.reads in
    let other : eqb byte 10 ≡ false = search rules in
    let pushed = c.push.ensures in
    record {
      few = omega (arith, here.few, ap length pushed, length-append line (byte ∷ []));
      plain = ap has_end pushed ∙ more_plain line byte other here.plain;
      connections = reads_more old mid new line byte here.connections read
          ∙ ap (λ (l : List ℕ). option_map (with_taken l) old.connections) (sym pushed);
      unended = read.1;
      calm = read.2 ∙ here.calm;
      missed = c.read_byte.ensures.misses ∙ here.missed;
    }
