use Rattle.std.proofs.Common.{rules, ap, ◌∙◌}
use Rattle.turn_pass.specs.History.{PassState, own}
use Rattle.turn_pass.proofs.OwnEntries.{last_own}
use Rattle.turn_pass.proofs.pass.PassSeat.see.Goals as goal

pub returns-clause-pass : goal.returns-clause-pass
returns-clause-pass g c = search rules

pub returns-clause-last : goal.returns-clause-last
returns-clause-last g c before =
    let old : PassState g.row.E.Denot = c.args.self.now in
    returns-clause-pass g c ∙
    ap (λ mine. record old { mine = mine })
    (last_own old.mine (own c.args.row c.args.entry) before)
