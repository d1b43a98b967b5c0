use Rattle.book_rules.proofs.Chains.{five_told}
use Rattle.book_rules.proofs.rules.refuse_opening.Goals as goal

pub returns : goal.returns
returns c =
    rw (c.or-4.ensures, c.or-3.ensures, c.or-2.ensures, c.or.ensures)
    (five_told c.day_unset.ensures c.product_unknown.ensures c.name_shape.ensures
    c.batch_known.ensures c.density_range.ensures)
