use Rattle.std.proofs.Common.{sym, ◌∙◌}
use Rattle.book_words.proofs.SaidTogether.{density_known}
use Rattle.book_verdicts.proofs.BatchFacts.{never_none, density_suits, volume_within}
use Rattle.book_verdicts.proofs.limits.density_of_batch.Goals as goal

pub unreachable-requires-in_default-density : goal.unreachable-requires-in_default-density
unreachable-requires-in_default-density c =
    never_none _ c.density.result (density_known c.args.state.now.entries c.args.batch.now
    c.requires.known) c.density.ensures c.in_default-density.is

pub returns-in-Some-Volume-clause-least : goal.returns-in-Some-Volume-clause-least
returns-in-Some-Volume-clause-least c =
    (volume_within c.in-Some-Volume.field-0 c.in-Some-density.density c.in-Some-Volume.field-0-is
    (density_suits c.args.state.now.entries c.product.ensures.legal c.args.batch.now
    c.in-Some.product c.in-Some-density.density c.in-Some-Volume.field-0
    (sym c.product.ensures.value ∙ c.in-Some.is) (sym c.density.ensures ∙ c.in-Some-density.is)
    (sym c.unit.ensures ∙ c.in-Some-Volume.is))).0

pub returns-in-Some-Volume-clause-greatest : goal.returns-in-Some-Volume-clause-greatest
returns-in-Some-Volume-clause-greatest c =
    (volume_within c.in-Some-Volume.field-0 c.in-Some-density.density c.in-Some-Volume.field-0-is
    (density_suits c.args.state.now.entries c.product.ensures.legal c.args.batch.now
    c.in-Some.product c.in-Some-density.density c.in-Some-Volume.field-0
    (sym c.product.ensures.value ∙ c.in-Some.is) (sym c.density.ensures ∙ c.in-Some-density.is)
    (sym c.unit.ensures ∙ c.in-Some-Volume.is))).1
