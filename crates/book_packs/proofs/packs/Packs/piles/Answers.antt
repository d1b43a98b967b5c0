use Rattle.std.proofs.Common.{◌∙◌, ap}
use Rattle.book_packs.specs.Stand.{Standing}
use Rattle.batch_sums.specs.Asked.{piles_of}
use Rattle.book_packs.proofs.PackTotals.{piles_are}
use Rattle.book_packs.proofs.packs.Packs.piles.Goals as goal

pub returns : goal.returns
returns c entries is =
    c.piles.ensures ∙ ap piles_of (ap (λ (s : Standing). s.packs) c.self.view_is ∙ is.packs)
    ∙ piles_are entries
