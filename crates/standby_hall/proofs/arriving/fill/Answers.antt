use Rattle.std.proofs.Common.{rules, ◌≡◌, ◌≤◌, ◌-◌, ◌∙◌, length, take, sym, subst, arith}
use Rattle.std.specs.Io.KnownBytes.{Consumes}
use Rattle.std.proofs.KnownBytes.{Consumes-trans}
use Rattle.standby_hall.proofs.FilledParts.{filled_on}
use Rattle.standby_hall.proofs.arriving.fill.Goals as goal

pub loop-count-preserved : goal.loop-count-preserved
loop-count-preserved g c =
    let inv = c.loop-count.invariant in
    let more = c.in_ok-more.more in
    let within : more ≤ length c.read.new.into = c.in_ok-more.ensures.bound in
    record {
      size = search rules;
      inside = search rules;
      unended = search rules;
      read = subst (Consumes (g.S.Source.left c.args.input.now) (g.S.Source.left c.read.new.self))
          (sym (filled_on c.loop-count.count more (length c.loop-count.into - c.loop-count.count)
          c.loop-count.into c.read.new.into inv.inside within))
          (Consumes-trans _ _ _ (take c.loop-count.count c.loop-count.into)
          (take more c.read.new.into) inv.read c.in_ok-more.ensures.bytes.0);
      calm = c.in_ok-more.ensures.cause ∙ inv.calm;
    }
