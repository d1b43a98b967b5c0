use Rattle.std.proofs.Common.{◌∙◌, ap}
use Rattle.book_packs.specs.Stand.{Standing}
use Rattle.std.specs.List.{slice_index_or}
use Rattle.std.specs.Prelude.{◌-◌, None}
use Rattle.book_packs.proofs.TareRegisters.{lane_at}
use Rattle.book_packs.proofs.packs.Packs.unsettled.Goals as goal

pub returns : goal.returns
returns c entries is =
    ap (λ some. slice_index_or some (c.args.lane - 1) None)
    (ap (λ (s : Standing). s.unsettled) c.self.view_is ∙ is.unsettled)
    ∙ lane_at entries c.args.lane c.requires.least c.requires.greatest
