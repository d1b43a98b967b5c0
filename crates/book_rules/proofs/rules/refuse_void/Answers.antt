use Rattle.book_rules.proofs.Chains.{five_told}
use Rattle.book_rules.proofs.rules.refuse_void.Goals as goal

pub returns : goal.returns
returns c =
    rw (c.or-4.ensures, c.or-3.ensures, c.or-2.ensures, c.or.ensures)
    (five_told c.day_unset.ensures c.pack_state.ensures c.pack_unknown.ensures c.pack_pile.ensures
    c.unsettled.ensures)
