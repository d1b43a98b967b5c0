use Rattle.book_rules.proofs.Chains.{six_told}
use Rattle.book_rules.proofs.rules.refuse_start.Goals as goal

pub returns : goal.returns
returns c =
    rw (c.or-5.ensures, c.or-4.ensures, c.or-3.ensures, c.or-2.ensures, c.or.ensures)
    (six_told c.day_unset.ensures c.batch_unknown.ensures c.batch_state.ensures
    c.lane_number.ensures c.lane_busy.ensures c.no_tare.ensures)
