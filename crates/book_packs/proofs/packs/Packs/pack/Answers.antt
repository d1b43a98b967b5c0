use Rattle.std.proofs.Common.{◌∙◌, ap}
use Rattle.book_packs.specs.Stand.{Standing}
use Rattle.std.specs.List.{find}
use Rattle.std.specs.Prelude.{◌==◌}
use Rattle.batch_sums.specs.declared.types.Pack.{Pack}
use Rattle.book_packs.proofs.PackTotals.{pack_is}
use Rattle.book_packs.proofs.packs.Packs.pack.Goals as goal

pub returns : goal.returns
returns c entries is =
    c.pack.ensures ∙ ap (find (λ (pack : Pack). pack.number == c.args.number))
    (ap (λ (s : Standing). s.packs) c.self.view_is ∙ is.packs) ∙ pack_is entries c.args.number
