use Rattle.book_rules.proofs.Chains.{four_told}
use Rattle.book_rules.proofs.rules.refuse_end.Goals as goal

pub returns : goal.returns
returns c =
    rw (c.or-3.ensures, c.or-2.ensures, c.or.ensures)
    (four_told c.day_unset.ensures c.batch_unknown.ensures c.batch_state.ensures c.lanes_running.ensures)
