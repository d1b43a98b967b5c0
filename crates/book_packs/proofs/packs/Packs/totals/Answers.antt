use Rattle.std.proofs.Common.{sym, ◌∙◌, ap}
use Rattle.book_packs.specs.Stand.{Standing}
use Rattle.book_packs.proofs.Known.{known_of}
use Rattle.book_packs.proofs.PackTotals.{totals_are}
use Rattle.book_packs.proofs.packs.Packs.totals.Goals as goal
use Rattle.std.proofs.lemmas.Option.{same_Some}

pub returns : goal.returns
returns c entries name is legal known =
    same_Some _ _ (sym c.totals.ensures
    ∙ totals_are entries c.self.inside.sums name c.args.batch
    (ap (λ (s : Standing). s.batches) c.self.view_is ∙ is.batches)
    (ap (λ (s : Standing). s.packs) c.self.view_is ∙ is.packs) known
    (known_of entries legal).weighed)
