use Rattle.std.proofs.Common.{sym, ◌∙◌}
use Rattle.book_verdicts.proofs.BatchFacts.{never_none, nominal_there}
use Rattle.book_verdicts.proofs.limits.nominal_of_batch.Goals as goal

pub unreachable-requires-in_default-nominal : goal.unreachable-requires-in_default-nominal
unreachable-requires-in_default-nominal c =
    never_none _ c.nominal.result (nominal_there c.args.state.now.entries c.args.batch.now
    c.in-Some.product c.product.ensures.legal (sym c.product.ensures.value ∙ c.in-Some.is))
    c.nominal.ensures.value c.in_default-nominal.is
