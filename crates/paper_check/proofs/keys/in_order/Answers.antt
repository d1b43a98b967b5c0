use Rattle.std.proofs.lemmas.List.Sorted.{IsNonDecreasingBy-from_sort}
use Rattle.paper_check.proofs.keys.in_order.Goals as goal

pub returns-clause-ascending : goal.returns-clause-ascending
returns-clause-ascending c =
    IsNonDecreasingBy-from_sort
    (λ x. x) c.sort_unstable.new.self.items c.sort_unstable.ensures.sorted
