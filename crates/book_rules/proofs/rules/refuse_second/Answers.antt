use Rattle.book_rules.proofs.Chains.{five_told}
use Rattle.book_rules.proofs.rules.refuse_second.Goals as goal

pub returns : goal.returns
returns c =
    λ word.
    rw (c.or-4.ensures, c.or-3.ensures, c.or-2.ensures, c.or.ensures)
    (five_told c.day_unset.ensures c.batch_unknown.ensures c.batch_state.ensures
    c.second_not_needed.ensures c.first_wanting.ensures)
