use Rattle.std.proofs.Common.{sym, ◌∙◌, ap, option_map}
use Rattle.std.specs.List.{slice_get}
use Rattle.batch_sums.specs.Totals.{Terms}
use Rattle.book_packs.specs.Stand.{Standing}
use Rattle.book_packs.proofs.PackTotals.{terms_at}
use Rattle.book_packs.proofs.packs.Packs.limits.Goals as goal
use Rattle.std.proofs.lemmas.Option.{same_Some}

pub returns : goal.returns
returns c entries name is known =
    same_Some _ _ (sym c.limits.ensures
    ∙ ap (λ some. option_map (λ (terms : Terms). terms.limits) (slice_get some c.args.batch))
    (ap (λ (s : Standing). s.batches) c.self.view_is ∙ is.batches)
    ∙ ap (option_map (λ (terms : Terms). terms.limits))
    (terms_at entries name c.args.batch known))
