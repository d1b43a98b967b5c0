use Rattle.std.proofs.Common.{◌∙◌, pos, take, sym, ap, arith}
use Rattle.std.proofs.lemmas.List.{take_more}
use Rattle.reference_test.specs.Means.{sums_of}
use Rattle.paper_check.proofs.sums.sums_of.Goals as goal

pub loop-mass-preserved : goal.loop-mass-preserved
loop-mass-preserved c =
    let masses = c.args.masses.now in
    let place = c.loop-mass.mass-index in (
      omega (arith, c.add_mass.ensures.counted, c.loop-mass.invariant.0),
      c.add_mass.ensures.added (take place masses) c.loop-mass.invariant.1
          ∙ ap sums_of (sym (take_more masses place (pos 0) c.loop-mass-test.true)),
    )
