use Rattle.book_rules.proofs.Chains.{five_told}
use Rattle.book_rules.proofs.rules.refuse_draw.Goals as goal

pub returns : goal.returns
returns c =
    λ word.
    rw (c.or-4.ensures, c.or-3.ensures, c.or-2.ensures, c.or.ensures)
    (five_told c.day_unset.ensures c.batch_unknown.ensures c.batch_state.ensures
    c.batch_empty.ensures c.mode_small.ensures)
