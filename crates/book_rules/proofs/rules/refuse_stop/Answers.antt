use Rattle.book_rules.proofs.Chains.{four_told}
use Rattle.book_rules.proofs.rules.refuse_stop.Goals as goal

pub returns : goal.returns
returns c =
    rw (c.or-3.ensures, c.or-2.ensures, c.or.ensures)
    (four_told c.day_unset.ensures c.lane_number.ensures
    (c.lane_idle.ensures c.args.state.now.entries c.args.lane c.requires)
    (c.prior_wrong.ensures c.args.state.now.entries c.args.lane c.requires))
